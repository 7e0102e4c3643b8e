use Rattle.std.proofs.Common.{sym, ◌∙◌, arith}
use Rattle.book.specs.Pages.{history_of}
use Rattle.book.proofs.Parts.{length_log}
use Rattle.book.proofs.Steps.{seen_more}
use Rattle.book.proofs.front.Front.catch_up.Goals as goal

pub invariant_of-self : goal.invariant_of-self
invariant_of-self g c =
    let l = c.look_at-self-inside.ensures in
    let b = c.self.invariant.2.base in
    (l.book, l.of, record { base = b; len = omega (arith, l.found, length_log g.J.Naming.plan c.self.inside.base b (history_of c.look_at-self-inside.new.seen.log)) })

pub returns-clause-seen : goal.returns-clause-seen
returns-clause-seen g c = rw (← c.self.view_is) (seen_more c.self.inside.seen.log c.look_at-self-inside.new.seen.log c.look_at-self-inside.ensures.grown)

pub returns-clause-whole : goal.returns-clause-whole
returns-clause-whole g c = c.look_at-self-inside.ensures.found ∙ sym (length_log g.J.Naming.plan c.self.inside.base c.self.invariant.2.base _)
