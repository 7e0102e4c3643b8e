use Rattle.std.proofs.Common.{◌≡◌, ◌+◌, ◌<◌, ◌++◌, ◌∷◌, [], map, length, get_or, take, ap, sym, ◌∙◌, arith}
use Rattle.std.proofs.lemmas.List.{map-append, take_more}
use Rattle.packet.specs.Readers.{Reader, readers}
use Rattle.sessions.specs.Callers.{reader_of}
use Rattle.system.proofs.Started.{next_is, rest_left}
use Rattle.system.proofs.starter.Starter.start_views.Goals as goal

pub loop-reader-preserved : goal.loop-reader-preserved
loop-reader-preserved g c =
    let p = g.J.Naming.plan in
    let i = c.loop-reader.invariant in
    let n = c.loop-reader.reader in
    let x = c.remove-copy.result in
    let lt : n < length (readers p) = omega (arith, c.loop-reader-test.true, c.len-count.ensures, ap length c.requires.copies) in
    let at : get_or (readers p) n x ≡ x = next_is (readers p) c.loop-reader.copies.items n x i.left c.remove-copy.ensures.value in
    record {
      left = c.remove-copy.ensures.items ∙ rest_left (readers p) c.loop-reader.copies.items n x i.left lt;
      shown = ap (map reader_of) c.in_ok-push.ensures.items
          ∙ (map-append reader_of c.loop-reader.readers.items (c.in_ok-start_view.field-0 ∷ [])
          ∙ (ap (λ l. l ++ reader_of c.in_ok-start_view.field-0 ∷ []) i.shown
          ∙ (ap (λ (r : Reader). take n (readers p) ++ r ∷ []) (c.in_ok-start_view.ensures.reader ∙ sym at)
          ∙ sym (take_more (readers p) n x lt))));
    }
