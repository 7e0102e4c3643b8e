-- The rows that stand in the places of a bag.
use Rattle.std.specs.Prelude.{List, [], ◌∷◌}
use Rattle.row.specs.Cells.{Cells}
use Rattle.row.specs.declared.rows.Rows.{Rows}
use Rattle.row.specs.declared.rows.Rows.TheVariants as place

-- the rows in order
abbrev pub rows_in : Rows → List Cells
rows_in place.None = []
rows_in (place.One row) = row ∷ []
rows_in (place.Many rows) = rows.items
