-- Changes of a bag of rows: signed rows, as a whole.
use Rattle.std.specs.Prelude.{◌≤◌, List, [], ◌∷◌}
use Rattle.row.specs.Cells.{Cells, row_cmp}
use Rattle.row.specs.Bags.{times, inserted, removed}
use Rattle.row.specs.Changes.{losses}
use Rattle.row.specs.declared.record.Record.{Record}
use Rattle.row.specs.declared.record.Sign.{Sign}
use Rattle.row.specs.declared.record.Sign.TheVariants.{Plus, Minus}

-- each row is there as often as it is taken away
pub record LossesFit (rows : List Cells) (records : List Record) : Type 0 where
  pub enough : (z : Cells) → losses z records ≤ times row_cmp z rows

-- the bag with the record's row, where the record adds it
abbrev pub plus_applied : Sign → Cells → List Cells → List Cells
plus_applied Plus row rows = inserted row_cmp row rows
plus_applied Minus row rows = rows

-- the bag without the record's row, where the record takes it away
abbrev pub minus_applied : Sign → Cells → List Cells → List Cells
minus_applied Plus row rows = rows
minus_applied Minus row rows = removed row_cmp row rows

-- the bag without the record's row, where the record had added it
abbrev pub taken_back : Sign → Cells → List Cells → List Cells
taken_back Plus row rows = removed row_cmp row rows
taken_back Minus row rows = rows

-- the bag with all that the records add
abbrev pub with_gains : List Cells → List Record → List Cells
with_gains rows [] = rows
with_gains rows (r ∷ rs) = with_gains (plus_applied r.sign r.row rows) rs

-- the bag without what the records take away
abbrev pub with_losses : List Cells → List Record → List Cells
with_losses rows [] = rows
with_losses rows (r ∷ rs) = with_losses (minus_applied r.sign r.row rows) rs

-- the bag with the records as one change: all that they add, and then without what they take away
abbrev pub with_records : List Cells → List Record → List Cells
with_records rows records = with_losses (with_gains rows records) records
