use Rattle.std.proofs.Common.{◌≡◌, map, take}
use Rattle.row.specs.Cells.{datum_of}
use Rattle.placed_rows.proofs.row_view.RowView.to_row.Given as goal

abbrev pub invariant-loop-at : goal.invariant-loop-at
invariant-loop-at l = map datum_of l.values.items ≡ take l.at l.self
