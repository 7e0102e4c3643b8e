use Rattle.std.proofs.Common.{◌∙◌}
use Rattle.placed_rows.specs.Here.{cells_at}
use Rattle.key_rows.proofs.Few.{are_two}
use Rattle.key_rows.proofs.shared.two.Goals as goal

pub returns-clause-rows : goal.returns-clause-rows
returns-clause-rows c = c.in_ok-of_few.ensures.rows ∙ are_two c.args.rows.now (cells_at c.in-Some.first) (cells_at c.in-Some-in_place.second) c.requires c.in-Some.ensures.row c.in-Some-in_place.ensures.row
