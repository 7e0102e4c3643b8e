use Rattle.book.proofs.Steps.{seen_more, on_err}
use Rattle.book.proofs.Sessions.{session_later, stolen}
use Rattle.book.proofs.session.SessionWord.add.Goals as goal

pub invariant_of-self : goal.invariant_of-self
invariant_of-self g c =
    let t = c.try_add.ensures in
    (t.book, t.of, session_later _ _ c.self.inside.seen.log c.try_add.new.seen.log _ _ _ c.self.invariant.2 t.grown)

pub returns-clause-grown : goal.returns-clause-grown
returns-clause-grown g c = rw (← c.self.view_is) (seen_more c.self.inside.seen.log c.try_add.new.seen.log c.try_add.ensures.grown)

pub returns-clause-done : goal.returns-clause-done
returns-clause-done g c = rw (← c.self.view_is, ← c.bases.ensures.bases) c.try_add.ensures.done

pub returns-clause-stolen : goal.returns-clause-stolen
returns-clause-stolen g c = on_err c.try_add.result (λ more. rw (← c.self.view_is) (stolen g.J.Naming.plan c.self.inside.seen.log c.try_add.new.seen.log _ _ _ c.try_add.ensures.grown (rw (c.bases.ensures.bases) at more))) c.try_add.ensures.moved
