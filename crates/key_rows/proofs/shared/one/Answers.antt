use Rattle.std.proofs.Common.{◌∙◌}
use Rattle.placed_rows.specs.Here.{cells_at}
use Rattle.key_rows.proofs.Few.{are_one}
use Rattle.key_rows.proofs.shared.one.Goals as goal

pub returns-clause-rows : goal.returns-clause-rows
returns-clause-rows c = c.in_ok-of_few.ensures.rows ∙ are_one c.args.rows.now (cells_at c.in-Some.first) c.requires c.in-Some.ensures.row
