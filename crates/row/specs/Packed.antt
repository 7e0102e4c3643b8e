-- The values of a row as it keeps them, and one of them by itself.
use Rattle.std.specs.Prelude.{◌≡◌, ℕ, ◌+◌, ◌≤◌, length, List, ◌++◌, ◌∷◌, map, take, drop, pos, Option, Some, None}
use Rattle.std.specs.declared.cmp.Ordering.{Ordering}
use Rattle.row.specs.Cells.{Datum, int, datum_of, datum_cmp}
use Rattle.row.specs.declared.cells.Cell.{Cell}
use Rattle.row.specs.declared.cells.Cell.TheVariants as cell
use Rattle.row.specs.declared.cells.Slot.{Slot}
use Rattle.row.specs.declared.cells.Slot.TheVariants as slot
use Rattle.row.specs.declared.cells.Kept.{Kept}
use Rattle.row.specs.declared.cells.Kept.TheVariants as kept

-- the value of a cell
abbrev pub datum_in : Cell → Datum
datum_in (cell.Made value) = datum_of value
datum_in (cell.Kept value) = datum_of value.now

-- a whole number from 0 on
abbrev pub whole : ℕ → Datum
whole n = int (pos n)

-- the value as it is kept
abbrev pub datum_at : Slot → Datum
datum_at (slot.Number n) = whole n
datum_at (slot.Value value) = datum_of value.now

-- how two values stand to each other, where both are there
abbrev pub order_of : Option Datum → Option Datum → Option Ordering
order_of (Some x) (Some y) = Some (datum_cmp x y)
order_of (Some x) None = None
order_of None y = None

-- so many of the numbers, then the value, and so many of the numbers that are left
abbrev pub packed : ℕ → ℕ → List ℕ → Datum → List Datum
packed before after numbers value =
    map whole (take before numbers) ++ value ∷ map whole (take after (drop before numbers))

-- the values in order
abbrev pub cells_in : Kept → List Datum
cells_in (kept.Packed before after numbers value) = packed before after numbers (datum_of value)
cells_in (kept.Many values) = map datum_of values.items

-- the packed numbers are those of the row and no more
abbrev pub Fits : Kept → Type 0
Fits (kept.Packed before after numbers value) = (length numbers ≡ 3) × (before + after ≤ 3)
Fits (kept.Many values) = Unit {0}
