-- The records that an entry brings: minus the row of its key, and plus its own row.
use Rattle.std.specs.Prelude.{ℕ, List, [], ◌∷◌, ◌++◌, map, filter}
use Rattle.row.specs.Cells.{Cells, cell_at, has}
use Rattle.row.specs.declared.record.Record.{Record}
use Rattle.row.specs.declared.record.Sign.TheVariants.{Plus, Minus}
use Rattle.model.specs.Logs.{Change, inserts, deletes, updates}
use Rattle.base.specs.Shards.{Shard}

-- one more of the row, one less of it
abbrev pub plus_of : Cells → Record
plus_of r = record { row = r; sign = Plus }

abbrev pub minus_of : Cells → Record
minus_of r = record { row = r; sign = Minus }

-- an Insert adds its row, a Delete takes the row of its key away, and an Update does both
abbrev pub records_of : ℕ → List Cells → Change → List Record
records_of key rows (inserts r) = plus_of r ∷ []
records_of key rows (deletes k) = map minus_of (filter (has key k) rows)
records_of key rows (updates r) = map minus_of (filter (has key (cell_at r key)) rows) ++ plus_of r ∷ []

-- those at a shard
abbrev pub records_at : Shard → Change → List Record
records_at s e = records_of s.key s.rows e

-- how many these are, where the entry is lawful
abbrev pub record_count : Change → ℕ
record_count (inserts r) = 1
record_count (deletes k) = 1
record_count (updates r) = 2
