use Rattle.std.proofs.Common.{◌≡◌, ap, arith, length}
use mathlib.Core.List.{IsPrefix}
use Rattle.model.specs.Histories.{log_of}
use Rattle.book.specs.Pages.{history_of}
use Rattle.book.proofs.Replies.{longer_both, has_log, one_begins}
use Rattle.book.proofs.front.Front.adopt.Goals as goal

pub returns-clause-seen : goal.returns-clause-seen
returns-clause-seen g c =
    let first : IsPrefix c.self.inside.seen.log c.learn.new.seen.log = let l = c.learn.ensures.grown in rw (ap (λ s. s.log) c.again-both.ensures) at l in
    rw (← c.self.view_is, ← c.other.view_is) (longer_both _ _ (one_begins c.self.inside.seen.log c.other.inside.seen.log c.learn.new.seen.log first c.learn.ensures.others))

pub returns-clause-told : goal.returns-clause-told
returns-clause-told g c =
    let xs = history_of c.self.inside.seen.log in
    let same : c.self.inside.base ≡ c.other.inside.base = let b = c.requires.base in rw (← c.self.view_is, ← c.other.view_is) at b in
    let whole : c.self.inside.len ≡ length (log_of c.self.inside.base xs) = let w = c.requires.whole in rw (← c.self.view_is) at w in
    let whole' : c.other.inside.len ≡ length (log_of c.other.inside.base (history_of c.other.inside.seen.log)) = let w = c.requires.other in rw (← c.other.view_is) at w in
    let here : c.self.inside.len ≡ length (log_of c.other.inside.base xs) = rw same at whole in
    let first : IsPrefix c.self.inside.seen.log c.learn.new.seen.log = let l = c.learn.ensures.grown in rw (ap (λ s. s.log) c.again-both.ensures) at l in
    rw (← c.other.view_is) (has_log _ xs (one_begins c.self.inside.seen.log c.other.inside.seen.log c.learn.new.seen.log first c.learn.ensures.others) (omega (arith, here, whole', c.if-other-self.false)))
