-- The rows of a key, as a view shard keeps them.
use Rattle.std.specs.Prelude.{List}
use Rattle.row.specs.Cells.{Cells}
use Rattle.key_rows.specs.declared.kept.Kept.{Kept}
use Rattle.key_rows.specs.declared.kept.Kept.TheVariants as kept

-- the rows in order
abbrev pub rows_kept : Kept → List Cells
rows_kept (kept.Piece rows) = rows
rows_kept (kept.Whole rows) = rows
