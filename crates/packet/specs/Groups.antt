-- Records in groups, one for each key.
use Rattle.std.specs.Prelude.{ℕ, List, [], map, Option, Some, None}
use Rattle.std.specs.Map.{lookup, keys_of}
use Rattle.row.specs.Cells.{Datum, Cells, datum_of, same}
use Rattle.row.specs.BagChanges.{with_records}
use Rattle.row.specs.declared.record.Record.{Record}
use Rattle.row.specs.declared.value.Value.{Value}
use Rattle.partial.specs.States.{State, after_change}
use Rattle.packet.specs.Messages.{KeyedRecord}

-- the keys with their records
abbrev pub KeyedRecords : Type 0
KeyedRecords = List (Value × List Record)

-- the records, none where there is no group
abbrev pub or_empty : Option (List Record) → List Record
or_empty None = []
or_empty (Some records) = records

-- the records of a key
abbrev pub records_at : KeyedRecords → Datum → List Record
records_at groups d = or_empty (lookup (λ y. same d (datum_of y)) groups)

-- the keys that have a group
abbrev pub names_of : KeyedRecords → List Datum
names_of groups = map datum_of (keys_of groups)

-- the keys of these records
abbrev pub named_in : List KeyedRecord → List Datum
named_in changes = map (λ (c : KeyedRecord). c.key) changes

-- after the records of source s, if there are some of the key
abbrev pub changed_by : ℕ → Option (List Record) → State (List Cells) → State (List Cells)
changed_by s None st = st
changed_by s (Some records) st = after_change with_records s records st
