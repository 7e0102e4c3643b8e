use Rattle.book.proofs.Steps.{seen_more}
use Rattle.book.proofs.Sessions.{session_later}
use Rattle.book.proofs.session.SessionWord.learn.Goals as goal

pub invariant_of-self : goal.invariant_of-self
invariant_of-self g c =
    let l = c.learn.ensures in
    (l.book, l.of, session_later g.J.Naming.plan g.J.Naming.sessions c.self.inside.seen.log c.learn.new.seen.log _ _ _ c.self.invariant.2 l.grown)

pub returns-clause-seen : goal.returns-clause-seen
returns-clause-seen g c = rw (← c.self.view_is) (seen_more c.self.inside.seen.log c.learn.new.seen.log c.learn.ensures.grown)
