-- Bags of rows keep the laws of a gather, by how often each row is there. No public clause cites it.
use Rattle.std.proofs.Common.{◌≡◌, ◌+◌, ◌≤◌, List, [], ◌∷◌, ◌++◌, arith}
use Rattle.row.specs.Cells.{Cells, row_cmp}
use Rattle.row.specs.CellOrder.{row_total, row_same}
use Rattle.row.specs.Bags.{times, joined}
use Rattle.row.specs.BagChanges.{with_records}
use Rattle.row.specs.Changes.{IsCovered}
use Rattle.row.specs.declared.record.Record.{Record}
use Rattle.row.proofs.BagChanges.{times-with_records, IsAscending-with_records}
use Rattle.row.proofs.BagLemmas.{times-append, times-sorted, IsAscending-sorted, one_list}
use Rattle.partial.specs.Sums.{sum_of_bags}

pub times-joined_middle : (z : Cells) (before after : List (List Cells)) (p : List Cells)
    → times row_cmp z (joined (before ++ p ∷ after)) ≡ times row_cmp z (joined before) + (times row_cmp z p + times row_cmp z (joined after))
times-joined_middle z [] after p = omega (arith, times-append row_cmp z p (joined after))
times-joined_middle z (b ∷ before) after p =
    omega (arith, times-append row_cmp z b (joined (before ++ p ∷ after)), times-append row_cmp z b (joined before), times-joined_middle z before after p)

le_sum : (before after : List (List Cells)) (p : List Cells) (z : Cells) → times row_cmp z p ≤ times row_cmp z (sum_of_bags (before ++ p ∷ after))
le_sum before after p z = omega (arith, times-sorted row_cmp z (joined (before ++ p ∷ after)), times-joined_middle z before after p)

-- changes that fit a piece fit the sum
pub total_fits : (before after : List (List Cells)) (p : List Cells) (rs : List Record) → IsCovered p rs → IsCovered (sum_of_bags (before ++ p ∷ after)) rs
total_fits before after p rs h = record { enough = λ z. omega (arith, h.enough z, le_sum before after p z) }

-- a change of a piece is a change of the sum
pub total_changes : (before after : List (List Cells)) (p : List Cells) (rs : List Record) → IsCovered p rs
    → sum_of_bags (before ++ with_records p rs ∷ after) ≡ with_records (sum_of_bags (before ++ p ∷ after)) rs
total_changes before after p rs h =
    one_list row_cmp row_total row_same _ _
    (IsAscending-sorted row_cmp row_total (joined (before ++ with_records p rs ∷ after)))
    (IsAscending-with_records (sum_of_bags (before ++ p ∷ after)) rs (IsAscending-sorted row_cmp row_total (joined (before ++ p ∷ after))))
    (λ z. omega (
      arith,
      times-sorted row_cmp z (joined (before ++ with_records p rs ∷ after)),
      times-sorted row_cmp z (joined (before ++ p ∷ after)),
      times-joined_middle z before after p,
      times-joined_middle z before after (with_records p rs),
      times-with_records z p rs h,
      times-with_records z (sum_of_bags (before ++ p ∷ after)) rs (total_fits before after p rs h),
    ))
