-- A row whose values lie in it, where they can.
use Rattle.std.specs.Prelude.{List}
use Rattle.row.specs.Cells.{Datum}
use Rattle.placed_rows.specs.Here.{cells_at, IsWhole}
use Rattle.placed_rows.specs.declared.placed.Place.{Place}
use Rattle.placed_rows.specs.declared.placed.Place.TheVariants as place

-- the values in order
abbrev pub values_in : Place → List Datum
values_in (place.Here row) = cells_at row
values_in (place.Apart row) = row

-- a row whose values lie in it is whole
abbrev pub IsPlaced : Place → Type 0
IsPlaced (place.Here row) = IsWhole row
IsPlaced (place.Apart row) = Unit {0}
