use Rattle.std.proofs.Common.{refl}
use Rattle.model.proofs.Prefixes.{prefix_self}
use Rattle.sessions.proofs.Callers.{caller_later}
use Rattle.sessions.proofs.Later.{all_self}
use Rattle.sessions.proofs.Looks.{looks_later}
use Rattle.sessions.proofs.session.Session.asked.Goals as goal

pub invariant_of-self : goal.invariant_of-self
invariant_of-self g c =
    let p = g.J.Naming.plan in
    let i = c.self.inside in
    (caller_later p _ i.number i.stolen i.seen c.asked.new.self c.self.invariant.0 (prefix_self i.seen), c.self.invariant.1, looks_later p _ i.number i.stolen i.seen i.accepted.items c.asked.new.self c.self.invariant.2 c.asked.ensures.later, c.self.invariant.3)

pub returns-then-is_spent-clause-looked : goal.returns-then-is_spent-clause-looked
returns-then-is_spent-clause-looked g c = record { looked = all_self _; after = refl }

pub returns-in_err-view-clause-looked : goal.returns-in_err-view-clause-looked
returns-in_err-view-clause-looked g c = record { looked = all_self _; after = refl }
