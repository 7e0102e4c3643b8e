-- The numbers and the text of a row.
use Rattle.std.specs.Prelude.{◌++◌, ◌∷◌, List, map}
use Rattle.row.specs.Cells.{Datum, text}
use Rattle.row.specs.Packed.{whole}
use Rattle.placed_rows.specs.declared.in_place.Parts.{Parts}

-- the values, in order
abbrev pub cells_of : Parts → List Datum
cells_of p = map whole p.before.now ++ text p.text.now ∷ map whole p.after.now
