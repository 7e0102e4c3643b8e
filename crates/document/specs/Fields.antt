-- A document read field by field, as the functions of the crate read it: what it says, or the number
-- of the first fault. Of public clauses only that of `draft_at` cites this; the lemma `plan_is` of
-- `recipe` shows that the checks in their order say the same.
use Rattle.std.specs.Prelude.{ℕ, ℤ, Bool, true, false, List, [], ◌∷◌, codes, Option, Some, None, Result, Ok, Err}
use Rattle.std.specs.List.{before_first, after_first}
use Rattle.row.specs.Cells.{Datum, int, text}
use Rattle.plan.specs.Layouts.{ColumnLayout, TableLayout, ConditionLayout, SideLayout, ViewLayout, Layout}
use Rattle.plan.specs.declared.kinds.Kind.{Kind}
use Rattle.plan.specs.declared.kinds.Op.{Op}
use Rattle.plan.specs.declared.kinds.Aggregate.{Aggregate}
use Rattle.plan.specs.declared.kinds.Aggregate.TheVariants.{Count, Sum}
use Rattle.toml.specs.Data.{Data, Items, no_items, item, Members, get, as_str, as_integer, as_array, as_table}
use Rattle.document.specs.Words.{natural, has_only, kind_of, op_of, word_of, is_space, column_place, table_place, columns_of, side_columns, right_side_columns, column_of_both}
use Rattle.document.specs.Checks.{the_recipe, a_table, the_stage, a_condition, a_view, names_of, missing, mistyped}
use Rattle.document.specs.declared.word.Word.{Word}
use Rattle.document.specs.declared.word.Word.TheVariants as word

-- the first fault ends the reading
infixl 10 ◌>>=◌
abbrev pub ◌>>=◌ : {A B : Type 0} → Result A ℕ → (A → Result B ℕ) → Result B ℕ
(Ok x) >>= f = f x
(Err e) >>= f = Err e

-- ---- kinds of fields
abbrev pub kinded : {X : Type 0} → Option X → Result X ℕ
kinded None = Err mistyped
kinded (Some x) = Ok x

abbrev pub text_in : Data → Result (List ℕ) ℕ
text_in d = kinded (as_str d)

unfoldable pub whole_in : Data → Result ℕ ℕ
whole_in d = do
  z ← kinded (as_integer d)
  Ok (natural z)

abbrev pub list_in : Data → Result Items ℕ
list_in d = kinded (as_array d)

abbrev pub table_in : Data → Result Members ℕ
table_in d = kinded (as_table d)

-- each item of a list
abbrev pub each : {X : Type 0} → (Data → Result X ℕ) → Items → Result (List X) ℕ
each read no_items = Ok []
each read (item d ds) = do
  x ← read d
  xs ← each read ds
  Ok (x ∷ xs)

-- ---- whether a field is needed
abbrev pub needed : {X : Type 0} → (Data → Result X ℕ) → Option Data → Result X ℕ
needed read None = Err missing
needed read (Some d) = read d

abbrev pub optional : {X : Type 0} → X → (Data → Result X ℕ) → Option Data → Result X ℕ
optional x read None = Ok x
optional x read (Some d) = read d

-- the text or the whole number at a needed field
abbrev pub needed_text : List ℕ → Data → Result (List ℕ) ℕ
needed_text name d = needed text_in (get name d)

abbrev pub needed_whole : List ℕ → Data → Result ℕ ℕ
needed_whole name d = needed whole_in (get name d)

-- a text that is there exactly if its partner is
abbrev pub paired : Option Data → Option Data → Result (Option (List ℕ)) ℕ
paired None None = Ok None
paired None (Some other) = Err missing
paired (Some d) other = do
  t ← text_in d
  Ok (Some t)

abbrev pub finish : {X : Type 0} → Bool → X → Result X ℕ
finish true x = Ok x
finish false x = Err mistyped

-- ---- a table
abbrev pub column_named : List ℕ → Option Kind → Result ColumnLayout ℕ
column_named name None = Err mistyped
column_named [] (Some k) = Err mistyped
column_named (b ∷ bs) (Some k) = Ok (record { name = b ∷ bs; kind = k })

-- a name, one space, a kind
abbrev pub column_of : List ℕ → Result ColumnLayout ℕ
column_of t = column_named (before_first is_space t) (kind_of (after_first is_space t))

unfoldable pub column_at : Data → Result ColumnLayout ℕ
column_at d = do
  t ← text_in d
  column_of t

unfoldable pub columns_at : Data → Result (List ColumnLayout) ℕ
columns_at d = do
  ds ← list_in d
  each column_at ds

unfoldable pub table_at : Data → Result TableLayout ℕ
table_at d = do
  ms ← table_in d
  name ← needed_text (codes "name") d
  shards ← needed_whole (codes "shards") d
  key ← needed_text (codes "key") d
  columns ← needed columns_at (get (codes "columns") d)
  finish (has_only (names_of a_table) ms) (record { name = name; shards = shards; key = column_place columns key; columns = columns })

-- ---- a condition on a column of these
unfoldable pub op_at : Data → Result Op ℕ
op_at d = do
  t ← text_in d
  kinded (op_of t)

abbrev pub value_of : Option (List ℕ) → Option ℤ → Result Datum ℕ
value_of (Some t) z = Ok (text t)
value_of None (Some z) = Ok (int z)
value_of None None = Err mistyped

abbrev pub value_at : Data → Result Datum ℕ
value_at d = value_of (as_str d) (as_integer d)

unfoldable pub condition_at : List ColumnLayout → Data → Result ConditionLayout ℕ
condition_at columns d = do
  ms ← table_in d
  column ← needed_text (codes "column") d
  o ← needed op_at (get (codes "op") d)
  value ← needed value_at (get (codes "value") d)
  finish (has_only (names_of a_condition) ms) (record { column = column_place columns column; op = o; value = value })

unfoldable pub conditions_at : List ColumnLayout → Data → Result (List ConditionLayout) ℕ
conditions_at columns d = do
  ds ← list_in d
  each (condition_at columns) ds

-- ---- the stage
unfoldable pub word_at : Data → Result (Option Word) ℕ
word_at d = do
  t ← text_in d
  w ← kinded (word_of t)
  Ok (Some w)

-- the aggregate of the word and of the field `sum`, a column of these
abbrev pub aggregate_of : List ColumnLayout → Option Word → Option Data → Result (Option Aggregate) ℕ
aggregate_of columns None None = Ok None
aggregate_of columns None (Some d) = Err mistyped
aggregate_of columns (Some word.Count) None = Ok (Some Count)
aggregate_of columns (Some word.Count) (Some d) = Err mistyped
aggregate_of columns (Some word.Sum) None = Err missing
aggregate_of columns (Some word.Sum) (Some d) = do
  t ← text_in d
  Ok (Some (Sum (column_place columns t)))

-- conditions of a side that may be absent
abbrev pub right_conditions : List ColumnLayout → Option (List ℕ) → Option Data → Result (List ConditionLayout) ℕ
right_conditions columns right None = Ok []
right_conditions columns None (Some d) = Err mistyped
right_conditions columns (Some name) (Some d) = conditions_at columns d

abbrev pub right_columns : List TableLayout → Option (List ℕ) → List ColumnLayout
right_columns tables None = []
right_columns tables (Some name) = columns_of tables name

-- where the column of a sum stands
abbrev pub told_columns : List TableLayout → List ℕ → Option (List ℕ) → List ColumnLayout
told_columns tables left None = columns_of tables left
told_columns tables left (Some right) = columns_of tables right

abbrev pub side_of : List TableLayout → List ℕ → List ℕ → List ConditionLayout → SideLayout
side_of tables name key conditions = record { table = table_place tables name; key = column_place (columns_of tables name) key; conditions = conditions }

abbrev pub right_side : List TableLayout → Option (List ℕ) → Option (List ℕ) → List ConditionLayout → Option SideLayout
right_side tables (Some name) (Some key) conditions = Some (side_of tables name key conditions)
right_side tables (Some name) None conditions = None
right_side tables None key conditions = None

pub record StageLayout : Type 0 where
  pub shards : ℕ
  pub left : SideLayout
  pub right : Option SideLayout
  pub aggregate : Option Aggregate
  pub cap : ℕ

unfoldable pub stage_at : List TableLayout → Data → Result StageLayout ℕ
stage_at tables d = do
  ms ← table_in d
  shards ← needed_whole (codes "shards") d
  left ← needed_text (codes "left") d
  left_key ← needed_text (codes "left_key") d
  right ← paired (get (codes "right") d) (get (codes "right_key") d)
  right_key ← paired (get (codes "right_key") d) (get (codes "right") d)
  w ← optional None word_at (get (codes "aggregate") d)
  aggregate ← aggregate_of (told_columns tables left right) w (get (codes "sum") d)
  left_where ← optional [] (conditions_at (columns_of tables left)) (get (codes "left_where") d)
  right_where ← right_conditions (right_columns tables right) right (get (codes "right_where") d)
  cap ← optional 1024 whole_in (get (codes "cap") d)
  finish (has_only (names_of the_stage) ms) (record {
    shards = shards;
    left = side_of tables left left_key left_where;
    right = right_side tables right right_key right_where;
    aggregate = aggregate;
    cap = cap;
  })

-- ---- a view, keyed by one of the left columns or, behind them, of the right ones
unfoldable pub view_at : List ColumnLayout → List ColumnLayout → Data → Result ViewLayout ℕ
view_at lefts rights d = do
  ms ← table_in d
  name ← needed_text (codes "name") d
  key ← needed_text (codes "key") d
  shards ← needed_whole (codes "shards") d
  cap ← needed_whole (codes "cap") d
  finish (has_only (names_of a_view) ms) (record { name = name; key = column_of_both lefts rights key; shards = shards; cap = cap })

-- ---- the whole document
unfoldable pub tables_at : Data → Result (List TableLayout) ℕ
tables_at d = do
  ds ← list_in d
  each table_at ds

unfoldable pub views_at : List ColumnLayout → List ColumnLayout → Data → Result (List ViewLayout) ℕ
views_at lefts rights d = do
  ds ← list_in d
  each (view_at lefts rights) ds

unfoldable pub draft_at : Data → Result Layout ℕ
draft_at d = do
  ms ← table_in d
  tables ← needed tables_at (get (codes "table") d)
  stage ← needed (stage_at tables) (get (codes "stage") d)
  views ← needed (views_at (side_columns tables stage.left) (right_side_columns tables stage.right)) (get (codes "view") d)
  finish (has_only (names_of the_recipe) ms) (record {
    tables = tables;
    stages = stage.shards;
    left = stage.left;
    right = stage.right;
    aggregate = stage.aggregate;
    cap = stage.cap;
    views = views;
  })
