use Rattle.std.proofs.Common.{◌∙◌}
use Rattle.placed_rows.specs.Here.{cells_at}
use Rattle.key_rows.proofs.Few.{are_three}
use Rattle.key_rows.proofs.shared.three.Goals as goal

pub returns-clause-rows : goal.returns-clause-rows
returns-clause-rows c = c.in_ok-of_few.ensures.rows ∙ are_three c.args.rows.now (cells_at c.in-Some.first) (cells_at c.in-Some-in_place.second) (cells_at c.in-Some-in_place-2.third) c.requires c.in-Some.ensures.row c.in-Some-in_place.ensures.row c.in-Some-in_place-2.ensures.row
