-- The rows of a key that are being changed.
use Rattle.std.specs.Prelude.{List}
use Rattle.row.specs.Cells.{Cells}
use Rattle.key_rows.specs.declared.changed.Kept.{Kept}
use Rattle.key_rows.specs.declared.changed.Kept.TheVariants as kept

-- the rows in order
abbrev pub rows_kept : Kept → List Cells
rows_kept (kept.List rows) = rows
rows_kept (kept.Pieces rows) = rows
