use Rattle.sessions.proofs.Callers.{caller_later}
use Rattle.sessions.proofs.Looks.{looks_later}
use Rattle.sessions.proofs.Later.{all_self}
use Rattle.sessions.proofs.session.Session.meet.Goals as goal

pub invariant_of-self : goal.invariant_of-self
invariant_of-self g c = (caller_later g.J.Naming.plan _ _ _ c.meet.new.self _ c.self.invariant.0 c.meet.ensures.this, c.self.invariant.1, looks_later g.J.Naming.plan _ _ _ c.meet.new.self _ _ c.self.invariant.2 (all_self _), c.self.invariant.3)

pub invariant_of-other : goal.invariant_of-other
invariant_of-other g c = (caller_later g.J.Naming.plan _ _ _ c.meet.new.other _ c.other.invariant.0 c.meet.ensures.that, c.other.invariant.1, looks_later g.J.Naming.plan _ _ _ c.meet.new.other _ _ c.other.invariant.2 (all_self _), c.other.invariant.3)

pub returns-clause-one : goal.returns-clause-one
returns-clause-one g c = rw (← c.self.view_is, ← c.other.view_is) c.meet.ensures.one
