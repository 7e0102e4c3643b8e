-- The rows of an answer.
use Rattle.std.specs.Prelude.{◌≡◌, ◌≤◌, List, length, map, take}
use Rattle.row.specs.Bags.{Each}
use Rattle.row.specs.Cells.{Cells}
use Rattle.placed_rows.specs.Here.{cells_at, IsWhole}
use Rattle.placed_rows.specs.declared.in_place.InPlace.{InPlace}
use Rattle.key_rows.specs.declared.answer_rows.Given.{Given}
use Rattle.key_rows.specs.declared.answer_rows.Given.TheVariants as given

-- the rows in order
abbrev pub rows_given : List InPlace → Given → List Cells
rows_given few (given.Few count) = map cells_at (take count few)
rows_given few (given.Shared rows) = rows

-- so many are there, each of them whole
abbrev pub AreGiven : List InPlace → Given → Type 0
AreGiven few (given.Few count) = (length few ≡ 4) × (count ≤ 4) × Each IsWhole (take count few)
AreGiven few (given.Shared rows) = Unit {0}
