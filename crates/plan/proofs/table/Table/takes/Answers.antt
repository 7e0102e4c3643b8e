use Rattle.std.proofs.Common.{◌∙◌, sym}
use Rattle.plan.proofs.RowLoops.{row_width}
use Rattle.plan.proofs.table.Table.takes.Goals as goal

pub returns-then-width-clause-fits : goal.returns-then-width-clause-fits
returns-then-width-clause-fits c = row_width _ _ (λ e. c.if-width.true (c.width.ensures ∙ (e ∙ sym c.width-2.ensures)))
