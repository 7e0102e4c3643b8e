-- Which calls are refused for what they ask.
use Rattle.std.specs.Prelude.{ℕ, nat_le, cond, List, length, Option, Some, None}
use Rattle.row.specs.Cells.{Datum, Cells, cell_at}
use Rattle.row.specs.declared.refused.Refused.{Refused}
use Rattle.row.specs.declared.refused.Refused.TheVariants.{UnknownTable, BadRow, Duplicate, Absent, LogFull, UnknownView, BadKey}
use Rattle.plan.specs.Layouts.{Layout, table_at, column_at, view_at}
use Rattle.plan.specs.Kinds.{is_cell}
use Rattle.model.specs.Logs.{Change, inserts, deletes, updates, rows_of, is_held, fits}

-- a log of this length is full
abbrev pub full : ℕ → ℕ → Option Refused
full limit length = cond (nat_le limit length) (Some LogFull) None

-- over these rows of a log of this length: Duplicate or Absent, then LogFull
abbrev pub refusal_over : ℕ → ℕ → List Cells → ℕ → Change → Option Refused
refusal_over key limit rows length (inserts r) = cond (is_held key rows (cell_at r key)) (Some Duplicate) (full limit length)
refusal_over key limit rows length (deletes k) = cond (is_held key rows k) (full limit length) (Some Absent)
refusal_over key limit rows length (updates r) = cond (is_held key rows (cell_at r key)) (full limit length) (Some Absent)

-- at a front of the log
abbrev pub refusal : ℕ → ℕ → List Change → Change → Option Refused
refusal key limit front e = refusal_over key limit (rows_of key front) (length front) e

-- what an entry that does not fit is refused with
abbrev pub misfit : Change → Refused
misfit (inserts r) = BadRow
misfit (deletes k) = BadKey
misfit (updates r) = BadRow

-- a write to a table: UnknownTable, then BadRow, or BadKey of a Delete
abbrev pub write_refusal : Layout → Option ℕ → Change → Option Refused
write_refusal p None e = Some UnknownTable
write_refusal p (Some t) e = cond (fits (table_at p t) e) None (Some (misfit e))

-- a key of a column of the left table
abbrev pub key_refusal : Layout → ℕ → Datum → Option Refused
key_refusal p column k = cond (is_cell (column_at (table_at p p.left.table) column).kind k) None (Some BadKey)

-- a read of a view: UnknownView, then BadKey
abbrev pub read_refusal : Layout → Option ℕ → Datum → Option Refused
read_refusal p None k = Some UnknownView
read_refusal p (Some i) k = key_refusal p (view_at p i).key k

-- a call that names a view alone
abbrev pub view_refusal : Option ℕ → Option Refused
view_refusal None = Some UnknownView
view_refusal (Some i) = None

-- an order to evict a stage key has a left key; one to evict a key of a view is refused as a read of it
abbrev pub stage_refusal : Layout → Datum → Option Refused
stage_refusal p k = key_refusal p p.left.key k
