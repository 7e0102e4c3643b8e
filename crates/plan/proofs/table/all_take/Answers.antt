use Rattle.std.proofs.Common.{◌∙◌, ap, sym, Some}
use Rattle.plan.proofs.RowLoops.{row_next, row_stop}
use Rattle.plan.proofs.table.all_take.Goals as goal

pub returns-then-not-takes : goal.returns-then-not-takes
returns-then-not-takes c = row_stop _ c.args.row.now c.loop-at.at _ _ _ c.loop-at-test.true c.index-columns-at.is (c.cell.ensures ∙ ap Some (sym c.value.ensures)) (sym c.takes.ensures ∙ c.if-not-takes.true) c.loop-at.invariant

pub loop-at-preserved : goal.loop-at-preserved
loop-at-preserved c = row_next _ c.args.row.now c.loop-at.at _ _ _ c.loop-at-test.true c.index-columns-at.is (c.cell.ensures ∙ ap Some (sym c.value.ensures)) (sym c.takes.ensures ∙ c.if-not-takes.false) c.loop-at.invariant
