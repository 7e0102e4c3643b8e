use Rattle.std.proofs.Common.{◌≡◌, ◌≤◌, drop, length}
use Rattle.row.specs.Cells.{row_cmp}
use Rattle.placed_rows.proofs.row_view.RowView.compare_columns.Given as goal

abbrev pub invariant-loop-at : goal.invariant-loop-at
invariant-loop-at l = (l.at ≤ length l.other) × (row_cmp l.self l.other ≡ row_cmp (drop l.at l.self) (drop l.at l.other))
