-- A row where it lies.
use Rattle.std.specs.Prelude.{List}
use Rattle.row.specs.Cells.{Datum}
use Rattle.placed_rows.specs.Here.{cells_at, IsWhole}
use Rattle.placed_rows.specs.declared.row_view.Seen.{Seen}
use Rattle.placed_rows.specs.declared.row_view.Seen.TheVariants as seen

-- the values in order
abbrev pub values_seen : Seen → List Datum
values_seen (seen.Here row) = cells_at row.now
values_seen (seen.Apart row) = row.now

-- a row whose values lie in it is whole
abbrev pub IsSeen : Seen → Type 0
IsSeen (seen.Here row) = IsWhole row.now
IsSeen (seen.Apart row) = Unit {0}
