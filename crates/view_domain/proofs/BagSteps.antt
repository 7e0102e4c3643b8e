-- Rows that are put into a bag one after the other.
use Rattle.std.proofs.Common.{◌≡◌, List}
use Rattle.row.specs.Cells.{Cells, row_cmp}
use Rattle.row.specs.CellOrder.{row_total, row_same}
use Rattle.row.specs.Bags.{sorted, IsAscending}
use Rattle.row.proofs.BagLemmas.{one_list, IsAscending-sorted, times-sorted}

-- rows in order are the bag of them
pub sorted_same : (rows : List Cells) → IsAscending row_cmp rows → sorted row_cmp rows ≡ rows
sorted_same rows up = one_list row_cmp row_total row_same (sorted row_cmp rows) rows (IsAscending-sorted row_cmp row_total rows) up (λ z. times-sorted row_cmp z rows)

pub sorted_twice : (rows : List Cells) → sorted row_cmp (sorted row_cmp rows) ≡ sorted row_cmp rows
sorted_twice rows = sorted_same (sorted row_cmp rows) (IsAscending-sorted row_cmp row_total rows)
