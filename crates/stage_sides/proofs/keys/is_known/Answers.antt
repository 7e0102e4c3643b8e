use Rattle.std.proofs.Common.{ap, ◌∙◌}
use Rattle.row.specs.Cells.{cell_at}
use Rattle.stage_sides.proofs.keys.is_known.Goals as goal

pub returns-clause-named : goal.returns-clause-named
returns-clause-named c = record { value = c.value.result.now; is = c.value.ensures ∙ c.cell_or_zero.ensures ∙ ap (cell_at c.args.row.now) c.column-column.ensures.column }
