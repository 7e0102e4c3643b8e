-- Rows of a base shard that are found by a column. No public clause cites it.
use Rattle.std.specs.Prelude.{ℕ, nat_lt, All, List, ◌∷◌, Option, Some, None, IfSome, length, filter}
use Rattle.row.specs.Bags.{IsAlike}
use Rattle.row.specs.Cells.{Cells, row_cmp}
use Rattle.row.specs.Groups.{RowsBy}
use Rattle.base.specs.declared.index.Index.{Index}

-- the rows that have the column
abbrev pub reaching : ℕ → List Cells → List Cells
reaching column rows = filter (λ r. nat_lt column (length r)) rows

-- those that are found are the rows that have the column, each as often
abbrev pub IsOf : RowsBy → List Cells → Type 0
IsOf found rows = IsAlike row_cmp found.rows (reaching found.column rows)

-- the rows, and the one that waits
abbrev pub with_waiting : Option Cells → List Cells → List Cells
with_waiting None rows = rows
with_waiting (Some row) rows = row ∷ rows

-- an index that has not been given up groups the rows, with the one that waits, by its column
abbrev pub IsIndex : List Cells → Index → Type 0
IsIndex rows index = IfSome index.rows (λ found. IsOf found (with_waiting index.waiting rows))

-- so does each
abbrev pub AreIndexes : List Cells → List Index → Type 0
AreIndexes rows indexes = All (IsIndex rows) indexes
