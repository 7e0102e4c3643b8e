use Rattle.std.proofs.Common.{◌≡◌, None, replicate}
use Rattle.schedule.proofs.caller.OpenFence.new.Given as goal

abbrev pub invariant-loop-reader : goal.invariant-loop-reader
invariant-loop-reader l = l.acks.items ≡ replicate l._reader-index None
