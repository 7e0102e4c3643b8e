use Rattle.std.proofs.Common.{◌≡◌, ◌++◌, map}
use Rattle.protocol.specs.Edges.{pairs}
use Rattle.schedule.specs.Codes.{wire_in}
use Rattle.schedule.specs.Ways.{wire_on}
use Rattle.schedule.proofs.wire.push_pairs.Given as goal

abbrev pub invariant-loop-place : goal.invariant-loop-place
invariant-loop-place l = map wire_in l.out.items ≡ map wire_in l.fn.out.items ++ pairs (wire_on l.way) l.place l.to
