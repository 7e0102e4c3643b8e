use Rattle.std.proofs.Common.{map}
use Rattle.row.specs.Bags.{inserted}
use Rattle.row.specs.Cells.{row_cmp}
use Rattle.row.specs.CellOrder.{row_total}
use Rattle.row.proofs.BagLemmas.{IsAscending-inserted, IsAscending-removed}
use Rattle.placed_rows.specs.Here.{cells_at}
use Rattle.key_rows.proofs.shared.SharedRows.with_other.Goals as goal

pub invariant_of-result : goal.invariant_of-result
invariant_of-result c =
    let rows = map cells_at c.in-Few.few.now in
    let come = c.args.come.now in (
      c.in_ok-held.ensures.held,
      rw (c.in_ok-held.ensures.rows, c.in-Some.ensures.rows) (IsAscending-removed row_cmp c.args.gone.now (inserted row_cmp come rows) (IsAscending-inserted row_cmp row_total come rows (rw c.in-Few.ensures.rows c.in-Few.ensures.in_order))),
    )
