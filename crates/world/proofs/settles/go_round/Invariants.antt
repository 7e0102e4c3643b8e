use Rattle.std.proofs.Common.{◌≡◌, false, drop, length}
use Rattle.protocol.specs.Edges.{wires}
use Rattle.protocol.specs.WorldSteps.{round}
use Rattle.machine.specs.Held.{IsWhole, world_of}
use Rattle.machine.specs.Machines.{held}
use Rattle.world.proofs.Rounded.{at_round}
use Rattle.world.proofs.settles.go_round.Given as goal

abbrev pub invariant-loop-at : goal.invariant-loop-at
invariant-loop-at g l = record {
  whole : IsWhole g.F.Fronts.log g.F.Fronts.authors (held l.machine);
  plan : l.machine.places ≡ l.fn.machine.places;
  end : l.at-end ≡ length (wires l.fn.machine.places);
  rounds : round (at_round (world_of g.F.Fronts.log g.F.Fronts.authors (held l.machine)) l.ended.items l.moved) (drop l.at (wires l.fn.machine.places))
      ≡ round (at_round (world_of g.F.Fronts.log g.F.Fronts.authors (held l.fn.machine)) l.fn.ended.items false) (wires l.fn.machine.places);
}
