-- Parts of the rows of a table, and the rows of a key in them.
use Rattle.std.specs.Prelude.{ℕ, Bool, List, filter}
use Rattle.row.specs.Cells.{Datum, Cells, row_cmp, has, has_shard}
use Rattle.row.specs.Bags.{sorted}
use Rattle.base.specs.declared.part.Part.{Part}

-- the row's cell in the part's column has the part's shard
abbrev pub is_in : Part → Cells → Bool
is_in part row = has_shard part.column part.shards part.shard row

-- the rows of the part that have the value in the column, in order
abbrev pub found : ℕ → Datum → Part → List Cells → List Cells
found column value part rows = sorted row_cmp (filter (has column value) (filter (is_in part) rows))
