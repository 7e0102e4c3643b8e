use Rattle.std.proofs.Common.{◌≡◌, map, drop}
use Rattle.plan.specs.Profile.{is_new}
use Rattle.plan.proofs.names.is_new.Given as goal

abbrev pub invariant-loop-one : goal.invariant-loop-one
invariant-loop-one g l = is_new l.name (map g.T.Named.name_of l.all) ≡ is_new l.name (map g.T.Named.name_of (drop l.one-index l.all))
