use Rattle.std.proofs.Common.{◌≡◌, ℕ, ◌+◌, []}
use Rattle.protocol.specs.WorldSteps.{rounds, most_rounds}
use Rattle.machine.specs.Held.{IsWhole, world_of}
use Rattle.machine.specs.Machines.{held}
use Rattle.world.proofs.settles.settle.Given as goal

abbrev pub invariant-loop-at : goal.invariant-loop-at
invariant-loop-at g l = record {
  whole : IsWhole g.F.Fronts.log g.F.Fronts.authors (held l.machine);
  rounds : (n : ℕ) → l.at + n ≡ most_rounds → rounds n (world_of g.F.Fronts.log g.F.Fronts.authors (held l.machine)) l.ended.items ≡ rounds most_rounds (world_of g.F.Fronts.log g.F.Fronts.authors (held l.fn.machine)) [];
}
