-- What a base shard holds, and what an entry asks of it.
use Rattle.std.specs.Prelude.{◌≡◌, ℕ, ◌+◌, Bool, true, false, ◌<◌, List, length, Option, Some, None, Result, Ok, Err, ⊤}
use Rattle.row.specs.Cells.{Datum, Cells, cell_at, row_cmp}
use Rattle.row.specs.Bags.{sorted}
use Rattle.row.specs.declared.refused.Refused.{Refused}
use Rattle.model.specs.Refusals.{refusal_over}
use Rattle.model.specs.Logs.{Change, inserts, deletes, updates, changed, rows_of}

-- the key column, how many entries the log may have, the rows in order, how many entries the log has, and the key for which there is room
pub record Shard : Type 0 where
  pub key : ℕ
  pub limit : ℕ
  pub rows : List Cells
  pub length : ℕ
  pub room : Option Datum

-- the shard stands at the front: it has the front's rows and counts its entries
pub record IsAt (shard : Shard) (front : List Change) : Type 0 where
  pub rows : shard.rows ≡ sorted row_cmp (rows_of shard.key front)
  pub counts : shard.length ≡ length front

-- the row of an Insert or an Update has the key column
abbrev pub HasKey : ℕ → Change → Type 0
HasKey key (inserts row) = key < length row
HasKey key (deletes k) = ⊤
HasKey key (updates row) = key < length row

-- an Insert has room for its key; a Delete and an Update need none
abbrev pub HasRoom : Shard → Change → Type 0
HasRoom shard (inserts row) = shard.room ≡ Some (cell_at row shard.key)
HasRoom shard (deletes k) = ⊤
HasRoom shard (updates row) = ⊤

-- the entry adds a row
abbrev pub adds_row : Change → Bool
adds_row (inserts row) = true
adds_row (deletes k) = false
adds_row (updates row) = false

-- the room after the entry: an Insert has used it
abbrev pub room_after : Option Datum → Change → Option Datum
room_after room (inserts row) = None
room_after room (deletes k) = room
room_after room (updates row) = room

-- the rows with the entry
abbrev pub rows_with : Shard → Change → List Cells
rows_with s e = changed s.key s.rows e

-- and in order
abbrev pub rows_after : Shard → Change → List Cells
rows_after s e = sorted row_cmp (rows_with s e)

-- the shard with these rows, and all else as it was
abbrev pub rows_changed : Shard → Change → Shard
rows_changed s e = record s { rows = rows_after s e }

-- the shard after the entry
abbrev pub after_entry : Shard → Change → Shard
after_entry s e = record s { rows = rows_after s e; length = s.length + 1; room = room_after s.room e }

-- with what the log refuses the entry, if it does
abbrev pub refusal_of : Shard → Change → Option Refused
refusal_of s e = refusal_over s.key s.limit s.rows s.length e

-- Ok where there is no refusal
abbrev pub verdict : Option Refused → Result ⊤ Refused
verdict None = Ok tt
verdict (Some refused) = Err refused
