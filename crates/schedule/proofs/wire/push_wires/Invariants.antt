use Rattle.std.proofs.Common.{◌≡◌, ◌++◌, map}
use Rattle.schedule.specs.Codes.{wire_in}
use Rattle.schedule.specs.Ways.{wires_on}
use Rattle.schedule.proofs.wire.push_wires.Given as goal

abbrev pub invariant-loop-place : goal.invariant-loop-place
invariant-loop-place l = map wire_in l.out.items ≡ map wire_in l.fn.out.items ++ wires_on l.way l.from l.place
