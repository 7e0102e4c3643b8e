use Rattle.std.proofs.Common.{◌≡◌, map, drop}
use Rattle.plan.specs.Profile.{are_apart}
use Rattle.plan.proofs.names.are_apart.Given as goal

abbrev pub invariant-loop-at : goal.invariant-loop-at
invariant-loop-at g l = are_apart (map g.T.Named.name_of l.all) ≡ are_apart (map g.T.Named.name_of (drop l.at l.all))
