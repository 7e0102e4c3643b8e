use Rattle.std.proofs.Common.{◌≡◌, [], replicate}
use Rattle.schedule.proofs.caller.no_floors.Given as goal

abbrev pub invariant-loop-reader : goal.invariant-loop-reader
invariant-loop-reader l = l.floors.items ≡ replicate l._reader-index []
