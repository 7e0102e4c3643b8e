-- Where the values of a row lie.
use Rattle.std.specs.Prelude.{◌≡◌, ◌≤◌, length, List, map, take}
use Rattle.std.specs.Arc.{arc_value}
use Rattle.row.specs.Cells.{Datum}
use Rattle.row.specs.Packed.{whole}
use Rattle.row.specs.declared.row.Place.{Place}
use Rattle.row.specs.declared.row.Place.TheVariants as place

-- the values in order
abbrev pub values_in : Place → List Datum
values_in (place.Here count numbers) = map whole (take count numbers)
values_in (place.Apart cells) = arc_value cells

-- so many numbers are there
abbrev pub IsHeld : Place → Type 0
IsHeld (place.Here count numbers) = (length numbers ≡ 3) × (count ≤ 3)
IsHeld (place.Apart cells) = Unit {0}
