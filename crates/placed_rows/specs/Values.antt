-- A value of a row where it lies, and the values of one that lie in it.
use Rattle.std.specs.Prelude.{ℕ, List}
use Rattle.row.specs.Cells.{Datum, text}
use Rattle.row.specs.Packed.{datum_in, packed, whole}
use Rattle.placed_rows.specs.declared.field.Field.{Field}
use Rattle.placed_rows.specs.declared.field.Field.TheVariants as field

-- the value
abbrev pub datum_at : Field → Datum
datum_at (field.Number n) = whole n
datum_at (field.Text t) = text t.now
datum_at (field.Cell cell) = datum_in cell

-- so many of the numbers, the text, and so many of the numbers that are left
abbrev pub row_of : ℕ → ℕ → List ℕ → List ℕ → List Datum
row_of before after numbers t = packed before after numbers (text t)
