-- What a document says of a plan: its fields, and defaults. Where a field is not there, or of another
-- kind, an empty text, 0 or the like stands for it: such a document is refused.
use Rattle.std.specs.Prelude.{ℕ, ℤ, pos, List, [], map, codes, Option, Some, None}
use Rattle.std.specs.List.{before_first, after_first}
use Rattle.std.specs.Option.{unwrap_or}
use Rattle.row.specs.Cells.{Datum, int, text}
use Rattle.plan.specs.Layouts.{ColumnLayout, TableLayout, ConditionLayout, SideLayout, ViewLayout, Layout}
use Rattle.plan.specs.declared.kinds.Kind.TheVariants as kind
use Rattle.plan.specs.declared.kinds.Op.{Op}
use Rattle.plan.specs.declared.kinds.Op.TheVariants as op
use Rattle.plan.specs.declared.kinds.Aggregate.{Aggregate}
use Rattle.plan.specs.declared.kinds.Aggregate.TheVariants.{Count, Sum}
use Rattle.toml.specs.Data.{Data, no_members, get, as_str, as_integer, table}
use Rattle.document.specs.Words.{text_of, whole_of, items_of, kind_of, op_of, word_at_field, is_space, column_place, table_place, columns_of, side_columns, right_side_columns, column_of_both}
use Rattle.document.specs.declared.word.Word.{Word}
use Rattle.document.specs.declared.word.Word.TheVariants as word

-- ---- what a field says
abbrev pub field_or : {X : Type 0} → X → (Data → X) → Option Data → X
field_or x of None = x
field_or x of (Some d) = of d

abbrev pub text_at : List ℕ → Data → List ℕ
text_at name d = field_or [] text_of (get name d)

abbrev pub whole_at : List ℕ → Data → ℕ
whole_at name d = field_or 0 whole_of (get name d)

-- each item of a list
abbrev pub each_in : {X : Type 0} → (Data → X) → Option Data → List X
each_in of o = field_or [] (λ d. map of (items_of d)) o

-- ---- a table
abbrev pub column_said : List ℕ → ColumnLayout
column_said t = record { name = before_first is_space t; kind = unwrap_or (kind_of (after_first is_space t)) kind.Int }

abbrev pub columns_said : Data → List ColumnLayout
columns_said d = each_in (λ c. column_said (text_of c)) (get (codes "columns") d)

abbrev pub table_said : Data → TableLayout
table_said d = record {
  name = text_at (codes "name") d;
  shards = whole_at (codes "shards") d;
  key = column_place (columns_said d) (text_at (codes "key") d);
  columns = columns_said d;
}

abbrev pub tables_said : Data → List TableLayout
tables_said d = each_in table_said (get (codes "table") d)

-- ---- a condition on a column of these
abbrev pub op_said : Data → Op
op_said d = unwrap_or (op_of (text_of d)) op.Equal

-- a text, else a number
abbrev pub value_or_number : Option (List ℕ) → Option ℤ → Datum
value_or_number (Some t) z = text t
value_or_number None z = int (unwrap_or z (pos 0))

abbrev pub value_said : Data → Datum
value_said d = value_or_number (as_str d) (as_integer d)

abbrev pub condition_said : List ColumnLayout → Data → ConditionLayout
condition_said columns d = record {
  column = column_place columns (text_at (codes "column") d);
  op = field_or op.Equal op_said (get (codes "op") d);
  value = field_or (int (pos 0)) value_said (get (codes "value") d);
}

-- ---- the stage
abbrev pub side_said : List TableLayout → List ℕ → List ℕ → Option Data → SideLayout
side_said tables name key conditions = record {
  table = table_place tables name;
  key = column_place (columns_of tables name) key;
  conditions = each_in (condition_said (columns_of tables name)) conditions;
}

abbrev pub left_said : List TableLayout → Data → SideLayout
left_said tables s = side_said tables (text_at (codes "left") s) (text_at (codes "left_key") s) (get (codes "left_where") s)

-- a right side, if both its fields are there
abbrev pub right_of : List TableLayout → Option Data → Option Data → Option Data → Option SideLayout
right_of tables (Some name) (Some key) conditions = Some (side_said tables (text_of name) (text_of key) conditions)
right_of tables (Some name) None conditions = None
right_of tables None key conditions = None

abbrev pub right_said : List TableLayout → Data → Option SideLayout
right_said tables s = right_of tables (get (codes "right") s) (get (codes "right_key") s) (get (codes "right_where") s)

-- what is summed is a column of the right table, or of the left one if there is no right one
abbrev pub told_columns_said : List TableLayout → List ℕ → Option Data → List ColumnLayout
told_columns_said tables left None = columns_of tables left
told_columns_said tables left (Some right) = columns_of tables (text_of right)

abbrev pub aggregate_of_word : List ColumnLayout → Option Word → List ℕ → Option Aggregate
aggregate_of_word columns None name = None
aggregate_of_word columns (Some word.Count) name = Some Count
aggregate_of_word columns (Some word.Sum) name = Some (Sum (column_place columns name))

abbrev pub aggregate_said : List TableLayout → Data → Option Aggregate
aggregate_said tables s =
    aggregate_of_word (told_columns_said tables (text_at (codes "left") s) (get (codes "right") s)) (word_at_field (get (codes "aggregate") s)) (text_at (codes "sum") s)

-- ---- a view, keyed by a column of the left table or of the right one
abbrev pub view_said : List ColumnLayout → List ColumnLayout → Data → ViewLayout
view_said lefts rights d = record {
  name = text_at (codes "name") d;
  key = column_of_both lefts rights (text_at (codes "key") d);
  shards = whole_at (codes "shards") d;
  cap = whole_at (codes "cap") d;
}

-- ---- the whole document, with these tables, this stage and these views
abbrev pub stage_said : Data → Data
stage_said d = field_or (table no_members) (λ s. s) (get (codes "stage") d)

abbrev pub draft_over : List TableLayout → Data → Option Data → Layout
draft_over tables s views = record {
  tables = tables;
  stages = whole_at (codes "shards") s;
  left = left_said tables s;
  right = right_said tables s;
  aggregate = aggregate_said tables s;
  cap = field_or 1024 whole_of (get (codes "cap") s);
  views = each_in (view_said (side_columns tables (left_said tables s)) (right_side_columns tables (right_said tables s))) views;
}

abbrev pub draft_said : Data → Layout
draft_said d = draft_over (tables_said d) (stage_said d) (get (codes "view") d)
