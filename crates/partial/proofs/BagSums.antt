-- The sum of bags by its counts.
use Rattle.std.proofs.Common.{◌≡◌, List, sym, ◌∙◌}
use Rattle.row.specs.Cells.{Cells, row_cmp}
use Rattle.row.specs.CellOrder.{row_total, row_same}
use Rattle.row.specs.Bags.{times, IsAscending, joined}
use Rattle.row.proofs.BagLemmas.{times-sorted, IsAscending-sorted, one_list}
use Rattle.partial.specs.Sums.{sum_of_bags}

-- a bag in order with the counts of the pieces is their sum
pub sum_is : (pieces : List (List Cells)) (all : List Cells) → IsAscending row_cmp all → ((z : Cells) → times row_cmp z all ≡ times row_cmp z (joined pieces)) → all ≡ sum_of_bags pieces
sum_is pieces all up h = one_list row_cmp row_total row_same all (sum_of_bags pieces) up (IsAscending-sorted row_cmp row_total (joined pieces)) (λ z. h z ∙ sym (times-sorted row_cmp z (joined pieces)))
