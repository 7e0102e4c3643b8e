use Rattle.std.proofs.Common.{◌≡◌, ◌-◌, arith, ◌∙◌, sym, ap, not, length}
use Rattle.std.specs.Ordering.{is_gt}
use Rattle.row.specs.Cells.{row_cmp}
use Rattle.row.specs.CellOrder.{row_total}
use Rattle.key_rows.specs.Pieces.{has_reached}
use Rattle.key_rows.proofs.Pieced.{reached_by_last}
use Rattle.key_rows.proofs.pieces.Piece.has_reached.Goals as goal

pub returns-clause-reached : goal.returns-clause-reached
returns-clause-reached c =
    let rows = c.as_slice-rows.result.now in
    let same : rows ≡ c.args.self.now = c.as_slice-rows.ensures.rows in
    let told = reached_by_last row_cmp row_total c.args.row.now rows (length rows - 1) c.index-rows-rows.result (rw same c.as_slice-rows.ensures.in_order) (omega (arith, c.as_slice-rows.ensures.some, ap length same)) c.index-rows-rows.is in
    ap not (c.is_gt.ensures ∙ ap is_gt c.compare.ensures) ∙ (sym told ∙ ap (has_reached row_cmp c.args.row.now) same)
