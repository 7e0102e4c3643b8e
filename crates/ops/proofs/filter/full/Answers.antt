use Rattle.std.proofs.Common.{sym, ◌∙◌, ap}
use Rattle.row.specs.Cells.{row_cmp}
use Rattle.row.specs.Bags.{inserted}
use Rattle.plan.specs.Outputs.{pass}
use Rattle.ops.proofs.Loops.{kept_more, passed_more}
use Rattle.ops.proofs.filter.full.Goals.{then-pass+in_ok-try_clone+in_ok-add, else-pass}
use Rattle.ops.proofs.filter.full.Goals as goal

pub loop-row-preserved : goal.loop-row-preserved
loop-row-preserved c = elim c.if-pass.branch [
  | then-pass+in_ok-try_clone+in_ok-add w ↦
      kept_more (pass c.args.side.now.conditions) c.args.rows.now c.loop-row.row-index c.row-item.result c.loop-row.bag c.if-pass.bag c.loop-row-test.true c.row-item.is (sym c.pass.ensures ∙ w.if-pass.true) c.loop-row.invariant
      (w.bag-is ∙ (w.in_ok-add.ensures.added ∙ ap (λ x. inserted row_cmp x c.loop-row.bag) w.in_ok-try_clone.ensures))
  | else-pass w ↦
      passed_more (pass c.args.side.now.conditions) c.args.rows.now c.loop-row.row-index c.row-item.result c.loop-row.bag c.if-pass.bag c.loop-row-test.true c.row-item.is (sym c.pass.ensures ∙ w.if-pass.false) c.loop-row.invariant w.bag-is
]
