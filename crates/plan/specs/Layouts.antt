-- A checked plan as data. A table, a column or a view is named by its place.
use Rattle.std.specs.Prelude.{ℕ, List, [], Option, slice_index_or, slice_get, position}
use Rattle.std.specs.Option.{option_map}
use Rattle.std.specs.Str.{bytes_eq}
use Rattle.row.specs.Cells.{Datum}
use Rattle.plan.specs.declared.kinds.Kind.{Kind}
use Rattle.plan.specs.declared.kinds.Kind.TheVariants as kind
use Rattle.plan.specs.declared.kinds.Op.{Op}
use Rattle.plan.specs.declared.kinds.Aggregate.{Aggregate}

-- a column: its name, and the kind of its cells
pub record ColumnLayout : Type 0 where
  pub name : List ℕ
  pub kind : Kind

-- a table: its shards, its key column, its columns
pub record TableLayout : Type 0 where
  pub name : List ℕ
  pub shards : ℕ
  pub key : ℕ
  pub columns : List ColumnLayout

-- a condition: the cell of the column compared with the value
pub record ConditionLayout : Type 0 where
  pub column : ℕ
  pub op : Op
  pub value : Datum

-- a side of the stage: its table, the column of the stage key, and conditions that must all hold
pub record SideLayout : Type 0 where
  pub table : ℕ
  pub key : ℕ
  pub conditions : List ConditionLayout

-- a view: its key, a column of the left table, its shards, and how many filled keys a shard keeps
pub record ViewLayout : Type 0 where
  pub name : List ℕ
  pub key : ℕ
  pub shards : ℕ
  pub cap : ℕ

-- the tables, the shards of the stage, its sides, what is told of a group, how many filled keys a stage shard keeps, the views
pub record Layout : Type 0 where
  pub tables : List TableLayout
  pub stages : ℕ
  pub left : SideLayout
  pub right : Option SideLayout
  pub aggregate : Option Aggregate
  pub cap : ℕ
  pub views : List ViewLayout

-- what stands past the end of a list
abbrev pub no_column : ColumnLayout
no_column = record { name = []; kind = kind.Int }

abbrev pub no_table : TableLayout
no_table = record { name = []; shards = 0; key = 0; columns = [] }

abbrev pub no_view : ViewLayout
no_view = record { name = []; key = 0; shards = 0; cap = 0 }

-- the table, the view or the column at a place
abbrev pub table_at : Layout → ℕ → TableLayout
table_at p t = slice_index_or p.tables t no_table

abbrev pub view_at : Layout → ℕ → ViewLayout
view_at p i = slice_index_or p.views i no_view

abbrev pub column_at : TableLayout → ℕ → ColumnLayout
column_at t c = slice_index_or t.columns c no_column

-- the kind of a column's cells, if there is the column
abbrev pub kind_at : TableLayout → ℕ → Option Kind
kind_at t c = option_map (λ (x : ColumnLayout). x.kind) (slice_get t.columns c)

-- the place of the table, or the view, with the name
abbrev pub table_named : Layout → List ℕ → Option ℕ
table_named p name = position (λ (t : TableLayout). bytes_eq t.name name) p.tables

abbrev pub view_named : Layout → List ℕ → Option ℕ
view_named p name = position (λ (v : ViewLayout). bytes_eq v.name name) p.views
