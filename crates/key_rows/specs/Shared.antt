-- The rows of a key that copies share.
use Rattle.std.specs.Prelude.{◌≤◌, List, [], length, map}
use Rattle.std.specs.Arc.{arc_value}
use Rattle.row.specs.Bags.{Each}
use Rattle.row.specs.Cells.{Cells}
use Rattle.placed_rows.specs.Here.{cells_at, IsWhole}
use Rattle.placed_rows.specs.declared.in_place.InPlace.{InPlace}
use Rattle.key_rows.specs.declared.shared.Held.{Held}
use Rattle.key_rows.specs.declared.shared.Held.TheVariants as held
use Rattle.key_rows.specs.declared.shared.Place.{Place}
use Rattle.key_rows.specs.declared.shared.Place.TheVariants as place

-- the rows in order
abbrev pub rows_in : Held → List Cells
rows_in held.None = []
rows_in (held.One rows) = map cells_at (arc_value rows)
rows_in (held.Two rows) = map cells_at (arc_value rows)
rows_in (held.Three rows) = map cells_at (arc_value rows)
rows_in (held.Four rows) = map cells_at (arc_value rows)
rows_in (held.Many rows) = (arc_value rows).items
rows_in (held.Pieces rows) = arc_value rows

-- the rows where they lie
abbrev pub rows_at : Place → List Cells
rows_at (place.Few rows) = map cells_at rows.now
rows_at (place.List rows) = rows.now
rows_at (place.Pieces rows) = rows.now

-- up to four rows, each of them whole
pub record AreFew (rows : List InPlace) : Type 0 where
  pub small : length rows ≤ 4
  pub whole : Each IsWhole rows

-- so are those whose values lie in them
abbrev pub IsHeld : Held → Type 0
IsHeld held.None = Unit {0}
IsHeld (held.One rows) = AreFew (arc_value rows)
IsHeld (held.Two rows) = AreFew (arc_value rows)
IsHeld (held.Three rows) = AreFew (arc_value rows)
IsHeld (held.Four rows) = AreFew (arc_value rows)
IsHeld (held.Many rows) = Unit {0}
IsHeld (held.Pieces rows) = Unit {0}

abbrev pub IsAt : Place → Type 0
IsAt (place.Few rows) = AreFew rows.now
IsAt (place.List rows) = Unit {0}
IsAt (place.Pieces rows) = Unit {0}
