use Rattle.std.proofs.Common.{◌≡◌, drop, length}
use Rattle.model.specs.Places.{sources}
use Rattle.packet.specs.Codes.{mark_of}
use Rattle.protocol.specs.WorldSteps.{marked}
use Rattle.machine.specs.Held.{IsPlaced, world_of}
use Rattle.machine.specs.Machines.{held}
use Rattle.world.proofs.fences.mark_all.Given as goal

abbrev pub invariant-loop-at : goal.invariant-loop-at
invariant-loop-at g l = record {
  placed : IsPlaced g.F.Fronts.log g.F.Fronts.authors (held l.machine);
  plan : l.machine.places ≡ l.fn.machine.places;
  end : l.at-end ≡ length (sources l.fn.machine.places);
  marks : marked (world_of g.F.Fronts.log g.F.Fronts.authors (held l.machine)) (drop l.at (sources l.fn.machine.places)) (mark_of l.marker)
      ≡ marked (world_of g.F.Fronts.log g.F.Fronts.authors (held l.fn.machine)) (sources l.fn.machine.places) (mark_of l.marker);
}
