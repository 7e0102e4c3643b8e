use Rattle.std.proofs.Common.{◌≡◌, replicate}
use Rattle.machine.specs.Started.{new_session}
use Rattle.machine.proofs.starts.new_callers.Given as goal

abbrev pub invariant-loop : goal.invariant-loop
invariant-loop l = l.callers.items ≡ replicate l.counter (new_session l.places)
