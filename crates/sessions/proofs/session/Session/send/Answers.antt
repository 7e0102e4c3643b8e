use Rattle.std.proofs.Common.{◌+◌, arith}
use Rattle.model.specs.Entries.{change_of}
use Rattle.sessions.proofs.Callers.{caller_later, caller_taken, taken, answer_grows}
use Rattle.sessions.proofs.Looks.{looks_later}
use Rattle.sessions.proofs.Later.{all_self}
use Rattle.sessions.proofs.session.Session.send.Goals as goal

pub invariant_of-self : goal.invariant_of-self
invariant_of-self g c =
    let after = rw (c.in-Ok-answer.is, c.number.ensures.session) at c.in-Ok.ensures.taken in
    (caller_taken g.J.Naming.plan _ (c.self.inside.number + 1) c.args.base c.in-Ok-answer.index (change_of c.args.entry) c.in-Ok.told.seen c.self.invariant.0 c.requires.base after, omega (arith, c.self.invariant.1), looks_later g.J.Naming.plan _ (c.self.inside.number + 1) c.self.inside.stolen c.in-Ok.told.seen _ _ c.self.invariant.2 (all_self _), c.self.invariant.3)

pub returns-in-Ok-answer-clause-taken : goal.returns-in-Ok-answer-clause-taken
returns-in-Ok-answer-clause-taken g c =
    let after = rw (c.in-Ok-answer.is, c.number.ensures.session) at c.in-Ok.ensures.taken in
    rw (← c.self.view_is) (taken g.J.Naming.plan _ c.args.base c.in-Ok-answer.index (change_of c.args.entry) c.in-Ok.told.seen c.self.invariant.0 after)

pub invariant_of-self-in-Err-answer : goal.invariant_of-self-in-Err-answer
invariant_of-self-in-Err-answer g c =
    let why = rw c.in-Err-answer.is at c.in-Ok.ensures.untaken in
    (caller_later g.J.Naming.plan _ (c.self.inside.number + 1) c.self.inside.stolen c.in-Ok.told.seen _ c.self.invariant.0 (answer_grows _ _ _ _ _ _ _ _ why), omega (arith, c.self.invariant.1), looks_later g.J.Naming.plan _ (c.self.inside.number + 1) c.self.inside.stolen c.in-Ok.told.seen _ _ c.self.invariant.2 (all_self _), c.self.invariant.3)
