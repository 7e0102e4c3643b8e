-- A row whose values lie in it.
use Rattle.std.specs.Prelude.{◌≡◌, ◌+◌, ◌≤◌, List, length}
use Rattle.row.specs.Cells.{Datum}
use Rattle.placed_rows.specs.Values.{row_of}
use Rattle.placed_rows.specs.declared.in_place.InPlace.{InPlace}

-- the values in order
abbrev pub cells_at : InPlace → List Datum
cells_at r = row_of r.before r.after r.numbers r.text.bytes

-- the numbers are those of the row and no more
abbrev pub IsWhole : InPlace → Type 0
IsWhole r = (length r.numbers ≡ 3) × (r.before + r.after ≤ 3)
