use Rattle.std.proofs.Common.{◌≡◌, map, take}
use Rattle.packet.specs.Lines.{empty_log}
use Rattle.machine.proofs.starts.first_line.Given as goal

abbrev pub invariant-loop-base : goal.invariant-loop-base
invariant-loop-base g l = record { logs : map g.F.Fronts.log l.fronts.items ≡ map (empty_log l.places) (take l.base-index l.base-items) }
