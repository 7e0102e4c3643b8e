use Rattle.std.proofs.Common.{◌≡◌, take}
use Rattle.protocol.specs.WorldSteps.{raised}
use Rattle.schedule.proofs.cuts.raise.Given as goal

abbrev pub invariant-loop-reader : goal.invariant-loop-reader
invariant-loop-reader l = l.floors.items ≡ raised l.places l.fn.floors.items (take l.reader l.acks)
