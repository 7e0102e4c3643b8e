use Rattle.std.proofs.Common.{◌≡◌, ◌+◌, ap, arith, length, length-append, ◌∙◌}
use Rattle.book.specs.Pages.{history_of}
use Rattle.book.proofs.Rights.{fresh_more}
use Rattle.book.proofs.book.first_words.Goals as goal

pub loop-number-preserved : goal.loop-number-preserved
loop-number-preserved g c =
    let items = c.in_ok-push.ensures.items in
    let x = c.in_ok-first.ensures in
    let i = c.loop-number.invariant in
    let is : 0 + length c.loop-number.words.items ≡ c.loop-number.number = omega (arith, i.count) in
    rw items (record {
      fresh = fresh_more 0 c.loop-number.number c.loop-number.words.items c.in_ok-first.field-0 is i.fresh (record { session = x.0; answered = x.1; seen = x.2 ∙ ap history_of c.requires.log; floors = x.3 });
      count = length-append c.loop-number.words.items _ ∙ ap (λ n. n + 1) i.count;
    })
