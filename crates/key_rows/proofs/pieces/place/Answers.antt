use Rattle.std.proofs.Common.{◌≡◌, ◌+◌, ◌-◌, ◌/◌, [], get_or, arith, ◌∙◌, sym}
use Rattle.row.specs.Cells.{row_cmp}
use Rattle.row.specs.CellOrder.{row_total}
use Rattle.key_rows.proofs.Pieced.{before_next, get_or_any}
use Rattle.key_rows.proofs.pieces.place.Goals as goal

pub loop-low-preserved : goal.loop-low-preserved
loop-low-preserved c =
    let ps = c.args.pieces.now in
    let middle = c.loop-low.low + (c.loop-low.high - c.loop-low.low) / 2 in
    let p = c.index-pieces-middle.result in
    let e : get_or ps middle [] ≡ p = get_or_any ps middle [] p (omega (arith, c.loop-low.invariant.small, c.loop-low-test.true)) ∙ sym c.index-pieces-middle.is in
    record {
      ordered = omega (arith, c.loop-low-test.true);
      small = c.loop-low.invariant.small;
      before = before_next row_cmp row_total c.args.row.now ps middle c.requires.in_order (omega (arith, c.loop-low.invariant.small, c.loop-low-test.true)) (rw e c.has_reached.ensures.some) (rw e (sym c.has_reached.ensures.reached ∙ c.if-has_reached.false));
      here = c.loop-low.invariant.here;
    }
