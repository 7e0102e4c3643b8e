use Rattle.std.proofs.Common.{◌≡◌, flat_map, take}
use Rattle.model.specs.Queries.{side_share}
use Rattle.plain.proofs.stage.side_rows.Given as goal

abbrev pub invariant-loop-front : goal.invariant-loop-front
invariant-loop-front l = l.rows.items ≡ flat_map (side_share l.plan l.stage l.side) (take l.front-index l.fronts)
