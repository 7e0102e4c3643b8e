-- How the words of a call are read: each by its column.
use Rattle.std.specs.Prelude.{◌≡◌, ℕ, suc, List, [], ◌∷◌, Option, Some, None, unwrap_or}
use Rattle.row.specs.Cells.{Datum, Cells}
use Rattle.plan.specs.Layouts.{Layout, table_at, column_at, kind_at, table_named, view_at, view_named}
use Rattle.plan.specs.declared.kinds.Kind.{Kind}
use Rattle.plan.specs.declared.kinds.Kind.TheVariants.{Text}
use Rattle.script.specs.Values.{IsRead}

-- the kind of the key column of the view at the place; of no view it is a text
abbrev pub key_kind_at : Layout → Option ℕ → Kind
key_kind_at p None = Text
key_kind_at p (Some i) = (column_at (table_at p p.left.table) (view_at p i).key).kind

-- of the view of this name
abbrev pub kind_of_key : Layout → List ℕ → Kind
kind_of_key p view = key_kind_at p (view_named p view)

-- the kind of the column that keys the left table for the stage
abbrev pub kind_of_stage_key : Layout → Kind
kind_of_stage_key p = (column_at (table_at p p.left.table) p.left.key).kind

-- the kind of the key column of the table at the place; of no table it is a text
abbrev pub kind_in : Layout → Option ℕ → Kind
kind_in p None = Text
kind_in p (Some t) = (column_at (table_at p t) (table_at p t).key).kind

-- of the table of this name
abbrev pub kind_of_table : Layout → List ℕ → Kind
kind_of_table p table = kind_in p (table_named p table)

-- the kind of a column of the table at the place; of no table, and of no column, it is a text
abbrev pub kind_of_column : Layout → Option ℕ → ℕ → Kind
kind_of_column p None column = Text
kind_of_column p (Some t) column = unwrap_or (kind_at (table_at p t) column) Text

-- the words are these cells, where the first word is of this column
abbrev pub AreCells : (ℕ → Kind) → ℕ → List (List ℕ) → Cells → Type 0
AreCells kinds column [] row = row ≡ []
AreCells kinds column (word ∷ words) row = (cell : Datum) × (rest : Cells) × IsRead (kinds column) word cell × AreCells kinds (suc column) words rest × (row ≡ cell ∷ rest)

-- the words are this row of the table of this name
abbrev pub IsRow : Layout → List ℕ → List (List ℕ) → Cells → Type 0
IsRow p table words row = AreCells (kind_of_column p (table_named p table)) 0 words row
