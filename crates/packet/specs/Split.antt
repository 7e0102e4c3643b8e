-- What a split makes of records.
use Rattle.std.specs.Prelude.{ℕ, List, map}
use Rattle.std.specs.List.{range_with_len}
use Rattle.row.specs.declared.record.Record.{Record}
use Rattle.packet.specs.Truth.{records_for}

-- the records of each of n parts by the column, from part 0 on
abbrev pub parts_by : ℕ → ℕ → List Record → List (List Record)
parts_by column n records = map (λ j. records_for column n j records) (range_with_len 0 n)
