use Rattle.std.proofs.Common.{◌∙◌, sym, arith}
use Rattle.row.proofs.Compared.{cmp_told, cmp_told_tied, cmp_untold, cmp_shorter, cmp_ended, told_within}
use Rattle.placed_rows.proofs.row_view.RowView.compare_columns.Goals as goal

pub returns-in_default : goal.returns-in_default
returns-in_default c = sym (c.loop-at.invariant.1 ∙ cmp_untold c.args.self.now c.args.other.now c.loop-at.at (omega (arith, c.loop-at-test.true, c.width-at-end.ensures)) (sym c.in_default.is ∙ c.order_at.ensures))

pub returns-then-not-is_eq : goal.returns-then-not-is_eq
returns-then-not-is_eq c = sym (c.loop-at.invariant.1 ∙ cmp_told c.args.self.now c.args.other.now c.loop-at.at c.in-Some.order c.in-Some.ensures (sym c.is_eq.ensures ∙ c.if-not-is_eq.true))

pub loop-at-preserved : goal.loop-at-preserved
loop-at-preserved c = (
  omega (arith, told_within c.args.self.now c.args.other.now c.loop-at.at c.in-Some.order c.in-Some.ensures),
  c.loop-at.invariant.1 ∙ cmp_told_tied c.args.self.now c.args.other.now c.loop-at.at c.in-Some.order c.in-Some.ensures (sym c.is_eq.ensures ∙ c.if-not-is_eq.false),
)

pub returns-then-width : goal.returns-then-width
returns-then-width c = sym (c.loop-at.invariant.1 ∙ cmp_shorter c.args.self.now c.args.other.now c.loop-at.at (omega (arith, c.loop-at-test.false, c.width-at-end.ensures)) (omega (arith, c.loop-at.auto.at-end, c.width-at-end.ensures, c.width.ensures, c.width-2.ensures, c.if-width.true)))

pub returns-else-width : goal.returns-else-width
returns-else-width c = sym (c.loop-at.invariant.1 ∙ cmp_ended c.args.self.now c.args.other.now c.loop-at.at (omega (arith, c.loop-at-test.false, c.width-at-end.ensures)) (omega (arith, c.loop-at-test.false, c.width-at-end.ensures, c.width.ensures, c.width-2.ensures, c.if-width.false)))
