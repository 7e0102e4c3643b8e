use Rattle.std.proofs.Common.{ap, arith, inl}
use Rattle.sessions.specs.Callers.{Caller}
use Rattle.sessions.proofs.Found.{looked_unanswered, same_looked}
use Rattle.sessions.proofs.Looks.{looked_again, looked_read, looked_undone}
use Rattle.sessions.proofs.session.Session.read_by_turns.Goals as goal

pub loop-turn-init : goal.loop-turn-init
loop-turn-init g c = record { looked = same_looked _; number = c.requires.number }

pub look-requires-clause-number : goal.look-requires-clause-number
look-requires-clause-number g c = c.loop-turn.invariant.number

pub returns-in-Err-clause-refused : goal.returns-in-Err-clause-refused
returns-in-Err-clause-refused g c = inl (looked_undone g.J.Naming.plan _ _ _ c.loop-turn.invariant.looked _ c.in-Err.ensures.refused)

pub returns-in-Some-found-clause-answer : goal.returns-in-Some-found-clause-answer
returns-in-Some-found-clause-answer g c =
    let read = rw c.in-Some-found.is at c.in-Ok.ensures.hit in
    looked_read g.J.Naming.plan _ _ _ c.loop-turn.invariant.looked _ _ _ _ read

pub returns-in-Err-wait_for-clause-refused : goal.returns-in-Err-wait_for-clause-refused
returns-in-Err-wait_for-clause-refused g c =
    let missed = rw c.in_default.is at c.in-Ok.ensures.miss in
    looked_unanswered g.J.Naming.plan _ _ _ _ (looked_again g.J.Naming.plan _ _ _ c.loop-turn.invariant.looked missed.looked) c.in-Err-wait_for.ensures.refused

pub loop-turn-preserved : goal.loop-turn-preserved
loop-turn-preserved g c =
    let missed = rw c.in_default.is at c.in-Ok.ensures.miss in
    let total = looked_again g.J.Naming.plan _ _ _ c.loop-turn.invariant.looked missed.looked in
    rw c.in-Ok-wait_for.ensures.waited (record { looked = total; number = omega (arith, c.loop-turn.invariant.number, ap (λ (x : Caller). x.number) missed.looked.after) })
