-- Entries, logs, and the rows of a front. The key is the place of the table's key column.
use Rattle.std.specs.Prelude.{ℕ, Bool, cond, not, List, [], ◌∷◌, ◌++◌, map, filter}
use Rattle.std.specs.List.{list_any}
use Rattle.row.specs.Cells.{Datum, Cells, cell_at, has}
use Rattle.plan.specs.Layouts.{TableLayout, column_at}
use Rattle.plan.specs.Kinds.{is_cell, is_row}

-- an entry of a log: an Insert of a row, a Delete of a key, an Update to a row
pub data Change : Type 0 where
  inserts : (row : Cells) → Change
  deletes : (key : Datum) → Change
  updates : (row : Cells) → Change

-- the key of the row that the entry changes
abbrev pub key_of : ℕ → Change → Datum
key_of key (inserts r) = cell_at r key
key_of key (deletes k) = k
key_of key (updates r) = cell_at r key

-- the entry's row is one of the table, or its key is a cell of the key column
abbrev pub fits : TableLayout → Change → Bool
fits t (inserts r) = is_row t.columns r
fits t (deletes k) = is_cell (column_at t t.key).kind k
fits t (updates r) = is_row t.columns r

-- the rows after one more entry: its row added, the row of its key taken away, or its row in place of that of the same key
abbrev pub changed : ℕ → List Cells → Change → List Cells
changed key rows (inserts r) = rows ++ r ∷ []
changed key rows (deletes k) = filter (λ x. not (has key k x)) rows
changed key rows (updates r) = map (λ x. cond (has key (cell_at r key) x) r x) rows

-- the rows after further entries
abbrev pub rows_after : ℕ → List Cells → List Change → List Cells
rows_after key rows [] = rows
rows_after key rows (e ∷ es) = rows_after key (changed key rows e) es

-- the rows of a front
abbrev pub rows_of : ℕ → List Change → List Cells
rows_of key front = rows_after key [] front

-- some row has the key
abbrev pub is_held : ℕ → List Cells → Datum → Bool
is_held key rows k = list_any (has key k) rows

-- over these rows: the key is absent for an Insert, present for a Delete or an Update
abbrev pub lawful_over : ℕ → List Cells → Change → Bool
lawful_over key rows (inserts r) = not (is_held key rows (cell_at r key))
lawful_over key rows (deletes k) = is_held key rows k
lawful_over key rows (updates r) = is_held key rows (cell_at r key)

-- at a front of the log
abbrev pub lawful : ℕ → List Change → Change → Bool
lawful key front e = lawful_over key (rows_of key front) e
