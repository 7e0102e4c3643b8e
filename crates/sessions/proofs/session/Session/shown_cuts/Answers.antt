use Rattle.model.proofs.Prefixes.{prefix_self}
use Rattle.sessions.proofs.Callers.{caller_later}
use Rattle.sessions.proofs.Looks.{looks_later}
use Rattle.sessions.proofs.session.Session.shown_cuts.Goals as goal

pub invariant_of-self : goal.invariant_of-self
invariant_of-self g c =
    let p = g.J.Naming.plan in
    let i = c.self.inside in
    (caller_later p _ i.number i.stolen i.seen c.cuts.new.self c.self.invariant.0 (prefix_self i.seen), c.self.invariant.1, looks_later p _ i.number i.stolen i.seen i.accepted.items c.cuts.new.self c.self.invariant.2 c.cuts.ensures.later, c.self.invariant.3)
