-- Reading a document field by field gives what it says, or the refusal of the first check that fails.
use Rattle.std.proofs.Common.{◌≡◌, ℕ, ℤ, pos, Bool, true, false, ◌&&◌, ◌||◌, not, List, [], ◌∷◌, ◌++◌, map, flat_map, codes, Option, Some, None, Result, Ok, refl, ap, sym, ◌∙◌, append_assoc}
use Rattle.std.specs.List.{before_first, after_first}
use Rattle.std.specs.Option.{is_some, unwrap_or}
use Rattle.row.specs.Cells.{int}
use Rattle.plan.specs.Layouts.{ColumnLayout, TableLayout}
use Rattle.plan.specs.Profile.{checks, first_refusal, refusal_unless}
use Rattle.plan.specs.declared.kinds.Kind.{Kind}
use Rattle.plan.specs.declared.kinds.Kind.TheVariants as kind
use Rattle.plan.specs.declared.kinds.Op.{Op}
use Rattle.plan.specs.declared.kinds.Op.TheVariants as op
use Rattle.toml.specs.Data.{Data, Items, no_items, item, Members, no_members, get, as_str, as_integer, as_array, as_table, table}
use Rattle.document.specs.Words.{text_of, natural, whole_of, listed, items_of, members_of, has_only, kind_of, op_of, word_of, word_at_field, is_space, columns_of, side_columns, right_side_columns}
use Rattle.document.specs.Checks.{Part, the_recipe, a_table, the_stage, a_condition, a_view, Field, fields_of, names_of, Checks, has_bytes, is_column, column_checks, if_any, field_checks, part_checks, no_checks, document_checks, is_sum}
use Rattle.recipe.specs.Drafts.{field_or, each_in, column_said, table_said, columns_said, tables_said, op_said, value_or_number, value_said, condition_said, right_of, told_columns_said, aggregate_of_word, left_said, right_said, aggregate_said, text_at, whole_at, view_said, stage_said, draft_said}
use Rattle.document.specs.Fields.{◌>>=◌, StageLayout, kinded, text_in, whole_in, list_in, table_in, each, needed, optional, needed_text, needed_whole, paired, finish, column_named, column_at, columns_at, table_at, op_at, value_of, value_at, condition_at, conditions_at, word_at, aggregate_of, right_conditions, right_columns, told_columns, right_side, stage_at, view_at, tables_at, views_at, draft_at}
use Rattle.recipe.specs.Plans.{unless, judged, plan_at}
use Rattle.document.specs.declared.word.Word.{Word}
use Rattle.document.specs.declared.word.Word.TheVariants as word

-- one step, and what follows
bound : {X Y : Type 0} (cs ds : Checks) (x : X) (y : Y) (r : Result X ℕ) (f : X → Result Y ℕ) → r ≡ unless (first_refusal cs) x → f x ≡ unless (first_refusal ds) y → (r >>= f) ≡ unless (first_refusal (cs ++ ds)) y
bound [] ds x y r f h k = rw (h) k
bound {X} {Y} (c ∷ cs) ds x y r f h k = step c.0 h (λ e. bound cs ds x y r f e k)
  where
    step : (b : Bool) → r ≡ unless (refusal_unless b c.1 (first_refusal cs)) x → (r ≡ unless (first_refusal cs) x → (r >>= f) ≡ unless (first_refusal (cs ++ ds)) y) → (r >>= f) ≡ unless (refusal_unless b c.1 (first_refusal (cs ++ ds))) y
    step true e rest = rest e
    step false e rest = rw (e) refl

-- what is made of it cannot fail
made : {X Y : Type 0} (o : Option ℕ) (x : X) (r : Result X ℕ) (g : X → Y) → r ≡ unless o x → (r >>= λ v. Ok (g v)) ≡ unless o (g x)
made None x r g h = rw (h) refl
made (Some n) x r g h = rw (h) refl

finished : {X : Type 0} (b : Bool) (x y : X) → x ≡ y → finish b x ≡ unless (first_refusal ((b, 23) ∷ [])) y
finished true x y h = ap (λ v. Ok v) h
finished false x y h = refl

-- ---- a field
is_needed : {X : Type 0} (none : X) (read : Data → Result X ℕ) (of : Data → X) (cs : Data → Checks) → ((d : Data) → read d ≡ unless (first_refusal (cs d)) (of d)) → (o : Option Data) → needed read o ≡ unless (first_refusal (((is_some o, 21) ∷ []) ++ if_any cs o)) (field_or none of o)
is_needed none read of cs h None = refl
is_needed none read of cs h (Some d) = h d

is_optional : {X : Type 0} (none : X) (read : Data → Result X ℕ) (of : Data → X) (cs : Data → Checks) → ((d : Data) → read d ≡ unless (first_refusal (cs d)) (of d)) → (o : Option Data) → optional none read o ≡ unless (first_refusal (if_any cs o)) (field_or none of o)
is_optional none read of cs h None = refl
is_optional none read of cs h (Some d) = h d

abbrev paired_said : Option Data → Option (List ℕ)
paired_said None = None
paired_said (Some d) = Some (text_of d)

-- ---- values
text_is : (d : Data) → text_in d ≡ unless (first_refusal ((is_some (as_str d), 23) ∷ [])) (text_of d)
text_is d = step (as_str d)
  where
    step : (o : Option (List ℕ)) → kinded o ≡ unless (first_refusal ((is_some o, 23) ∷ [])) (unwrap_or o [])
    step None = refl
    step (Some t) = refl

whole_is : (d : Data) → whole_in d ≡ unless (first_refusal ((is_some (as_integer d), 23) ∷ [])) (whole_of d)
unfolding whole_in
whole_is d = step (as_integer d)
  where
    step : (o : Option ℤ) → (kinded o >>= λ z. Ok (natural z)) ≡ unless (first_refusal ((is_some o, 23) ∷ [])) (natural (unwrap_or o (pos 0)))
    step None = refl
    step (Some z) = refl

members_is : (d : Data) → table_in d ≡ unless (first_refusal ((is_some (as_table d), 23) ∷ [])) (members_of d)
members_is d = step (as_table d)
  where
    step : (o : Option Members) → kinded o ≡ unless (first_refusal ((is_some o, 23) ∷ [])) (unwrap_or o no_members)
    step None = refl
    step (Some ms) = refl

-- ---- lists
items_is : {X : Type 0} (read : Data → Result X ℕ) (of : Data → X) (cs : Data → Checks) → ((d : Data) → read d ≡ unless (first_refusal (cs d)) (of d)) → (ds : Items) → each read ds ≡ unless (first_refusal (flat_map cs (listed ds))) (map of (listed ds))
items_is read of cs h no_items = refl
items_is read of cs h (item d ds) =
    bound (cs d) (flat_map cs (listed ds)) (of d) (map of (listed (item d ds))) (read d) _ (h d)
    (made (first_refusal (flat_map cs (listed ds))) (map of (listed ds)) (each read ds) (λ xs. of d ∷ xs) (items_is read of cs h ds))

list_is : {X : Type 0} (read : Data → Result X ℕ) (of : Data → X) (cs : Data → Checks) → ((d : Data) → read d ≡ unless (first_refusal (cs d)) (of d)) → (d : Data) → (list_in d >>= λ ds. each read ds) ≡ unless (first_refusal ((is_some (as_array d), 23) ∷ flat_map cs (items_of d))) (map of (items_of d))
list_is {X} read of cs h d = step (as_array d)
  where
    step : (o : Option Items) → (kinded o >>= λ ds. each read ds) ≡ unless (first_refusal ((is_some o, 23) ∷ flat_map cs (listed (unwrap_or o no_items)))) (map of (listed (unwrap_or o no_items)))
    step None = refl
    step (Some ds) = items_is read of cs h ds

-- ---- members
abbrev joined : (Field → Checks) → List Field → Checks → Checks
joined g [] last = last
joined g (f ∷ fs) last = g f ++ joined g fs last

joined_is : (g : Field → Checks) (fs : List Field) (last : Checks) → joined g fs last ≡ flat_map g fs ++ last
joined_is g [] last = refl
joined_is g (f ∷ fs) last = ap (λ t. g f ++ t) (joined_is g fs last) ∙ sym (append_assoc (g f) (flat_map g fs) last)

-- what is left of a member gives y, or fails in the checks of these fields or the last one
record Reads {X : Type 0} (g : Field → Checks) (fs : List Field) (last : Checks) (y : X) (r : Result X ℕ) : Type 0 where
  reads : r ≡ unless (first_refusal (joined g fs last)) y

-- one field, and what follows
row : {X Y : Type 0} {g : Field → Checks} {f : Field} {fs : List Field} {last : Checks} {y : Y} {r : Result X ℕ} (k : X → Result Y ℕ) (x : X)
    → r ≡ unless (first_refusal (g f)) x → Reads g fs last y (k x) → Reads g (f ∷ fs) last y (r >>= k)
row {X} {Y} {g} {f} {fs} {last} {y} {r} k x h rest = record { reads = bound (g f) (joined g fs last) x y r k h rest.reads }

-- no other field
no_more : {X : Type 0} {g : Field → Checks} {b : Bool} {x y : X} → x ≡ y → Reads g [] ((b, 23) ∷ []) y (finish b x)
no_more {X} {g} {b} {x} {y} h = record { reads = finished b x y h }

part_is : {X : Type 0} (within : Part → Data → Checks) (part : Part) (d : Data) (x : X) (f : Members → Result X ℕ)
    → Reads (field_checks within d) (fields_of part) ((has_only (names_of part) (members_of d), 23) ∷ []) x (f (members_of d))
    → (table_in d >>= f) ≡ unless (first_refusal (part_checks within part d)) x
part_is within part d x f h =
    let last = (has_only (names_of part) (members_of d), 23) ∷ [] in
    bound ((is_some (as_table d), 23) ∷ []) (flat_map (field_checks within d) (fields_of part) ++ last) (members_of d) x (table_in d) f (members_is d)
    (h.reads ∙ ap (λ cs. unless (first_refusal cs) x) (joined_is (field_checks within d) (fields_of part) last))

abbrev texts : Data → Checks
texts x = (is_some (as_str x), 23) ∷ []

abbrev wholes : Data → Checks
wholes x = (is_some (as_integer x), 23) ∷ []

text_row : (name : List ℕ) (d : Data) → needed_text name d ≡ unless (first_refusal (((is_some (get name d), 21) ∷ []) ++ if_any texts (get name d))) (text_at name d)
text_row name d = is_needed [] text_in text_of texts text_is (get name d)

whole_row : (name : List ℕ) (d : Data) → needed_whole name d ≡ unless (first_refusal (((is_some (get name d), 21) ∷ []) ++ if_any wholes (get name d))) (whole_at name d)
whole_row name d = is_needed 0 whole_in whole_of wholes whole_is (get name d)

-- ---- tables
column_is : (d : Data) → column_at d ≡ unless (first_refusal (column_checks d)) (column_said (text_of d))
unfolding column_at
column_is d = bound ((is_some (as_str d), 23) ∷ []) ((is_column (text_of d), 23) ∷ []) (text_of d) _ (text_in d) _ (text_is d) (step (before_first is_space (text_of d)) (kind_of (after_first is_space (text_of d))))
  where
    step : (name : List ℕ) (k : Option Kind) → column_named name k ≡ unless (first_refusal ((has_bytes name && is_some k, 23) ∷ [])) (record { name = name; kind = unwrap_or k kind.Int })
    step name None = none name
      where
        none : (name : List ℕ) → column_named name None ≡ unless (first_refusal ((has_bytes name && false, 23) ∷ [])) (record { name = name; kind = kind.Int })
        none [] = refl
        none (b ∷ bs) = refl
    step [] (Some k) = refl
    step (b ∷ bs) (Some k) = refl

columns_is : (d : Data) → columns_at d ≡ unless (first_refusal ((is_some (as_array d), 23) ∷ flat_map column_checks (items_of d))) (map (λ c. column_said (text_of c)) (items_of d))
unfolding columns_at
columns_is d = list_is column_at (λ c. column_said (text_of c)) column_checks column_is d

table_is : (within : Part → Data → Checks) (d : Data) → table_at d ≡ unless (first_refusal (part_checks within a_table d)) (table_said d)
unfolding table_at
table_is within d =
    part_is within a_table d (table_said d) _
    (row _ (text_at (codes "name") d) (text_row (codes "name") d)
    (row _ (whole_at (codes "shards") d) (whole_row (codes "shards") d)
    (row _ (text_at (codes "key") d) (text_row (codes "key") d)
    (row _ (columns_said d) (is_needed [] columns_at (λ c. map (λ x. column_said (text_of x)) (items_of c)) (λ x. (is_some (as_array x), 23) ∷ flat_map column_checks (items_of x)) columns_is (get (codes "columns") d))
    (no_more refl)))))

tables_is : (within : Part → Data → Checks) (d : Data) → tables_at d ≡ unless (first_refusal ((is_some (as_array d), 23) ∷ flat_map (part_checks within a_table) (items_of d))) (map table_said (items_of d))
unfolding tables_at
tables_is within d = list_is table_at table_said (part_checks within a_table) (table_is within) d

-- ---- conditions
op_is : (d : Data) → op_at d ≡ unless (first_refusal ((is_some (as_str d), 23) ∷ (is_some (op_of (text_of d)), 23) ∷ [])) (op_said d)
unfolding op_at
op_is d = bound ((is_some (as_str d), 23) ∷ []) ((is_some (op_of (text_of d)), 23) ∷ []) (text_of d) _ (text_in d) _ (text_is d) (step (op_of (text_of d)))
  where
    step : (o : Option Op) → kinded o ≡ unless (first_refusal ((is_some o, 23) ∷ [])) (unwrap_or o op.Equal)
    step None = refl
    step (Some x) = refl

value_is : (d : Data) → value_at d ≡ unless (first_refusal ((is_some (as_str d) || is_some (as_integer d), 23) ∷ [])) (value_said d)
value_is d = step (as_str d) (as_integer d)
  where
    step : (t : Option (List ℕ)) (z : Option ℤ) → value_of t z ≡ unless (first_refusal ((is_some t || is_some z, 23) ∷ [])) (value_or_number t z)
    step (Some t) z = refl
    step None (Some z) = refl
    step None None = refl

condition_is : (within : Part → Data → Checks) (columns : List ColumnLayout) (d : Data) → condition_at columns d ≡ unless (first_refusal (part_checks within a_condition d)) (condition_said columns d)
unfolding condition_at
condition_is within columns d =
    part_is within a_condition d (condition_said columns d) _
    (row _ (text_at (codes "column") d) (text_row (codes "column") d)
    (row _ (field_or op.Equal op_said (get (codes "op") d)) (is_needed op.Equal op_at op_said (λ x. (is_some (as_str x), 23) ∷ (is_some (op_of (text_of x)), 23) ∷ []) op_is (get (codes "op") d))
    (row _ (field_or (int (pos 0)) value_said (get (codes "value") d)) (is_needed (int (pos 0)) value_at value_said (λ x. (is_some (as_str x) || is_some (as_integer x), 23) ∷ []) value_is (get (codes "value") d))
    (no_more refl))))

abbrev many_checks : (Part → Data → Checks) → Part → Data → Checks
many_checks within part d = (is_some (as_array d), 23) ∷ flat_map (within part) (items_of d)

conditions_is : (columns : List ColumnLayout) (d : Data) → conditions_at columns d ≡ unless (first_refusal (many_checks (part_checks no_checks) a_condition d)) (map (condition_said columns) (items_of d))
unfolding conditions_at
conditions_is columns d = list_is (condition_at columns) (condition_said columns) (part_checks no_checks a_condition) (condition_is no_checks columns) d

-- ---- the stage
word_is : (d : Data) → word_at d ≡ unless (first_refusal ((is_some (as_str d), 23) ∷ (is_some (word_of (text_of d)), 23) ∷ [])) (word_of (text_of d))
unfolding word_at
word_is d = bound ((is_some (as_str d), 23) ∷ []) ((is_some (word_of (text_of d)), 23) ∷ []) (text_of d) _ (text_in d) _ (text_is d) (step (word_of (text_of d)))
  where
    step : (o : Option Word) → (kinded o >>= λ w. Ok (Some w)) ≡ unless (first_refusal ((is_some o, 23) ∷ [])) o
    step None = refl
    step (Some w) = refl

word_optional : (o : Option Data) → optional None word_at o ≡ unless (first_refusal (if_any (λ d. (is_some (as_str d), 23) ∷ (is_some (word_of (text_of d)), 23) ∷ []) o)) (word_at_field o)
word_optional None = refl
word_optional (Some d) = word_is d

-- a field and its partner
pair_is : (a b : Option Data) → paired a b ≡ unless (first_refusal (((is_some a || not (is_some b), 21) ∷ []) ++ if_any (λ d. (is_some (as_str d), 23) ∷ []) a)) (paired_said a)
pair_is None None = refl
pair_is None (Some d) = refl
pair_is (Some d) b = made _ (text_of d) (text_in d) (λ t. Some t) (text_is d)

aggregate_is : (columns : List ColumnLayout) (w : Option Word) (o : Option Data)
    → aggregate_of columns w o ≡ unless (first_refusal (((is_sum w || not (is_some o), 23) ∷ (is_some o || not (is_sum w), 21) ∷ []) ++ if_any (λ d. (is_some (as_str d), 23) ∷ []) o)) (aggregate_of_word columns w (field_or [] text_of o))
aggregate_is columns None None = refl
aggregate_is columns None (Some d) = refl
aggregate_is columns (Some word.Count) None = refl
aggregate_is columns (Some word.Count) (Some d) = refl
aggregate_is columns (Some word.Sum) None = refl
aggregate_is columns (Some word.Sum) (Some d) = made _ (text_of d) (text_in d) _ (text_is d)

right_conditions_is : (tables : List TableLayout) (right o : Option Data)
    → right_conditions (right_columns tables (paired_said right)) (paired_said right) o
    ≡ unless (first_refusal (((is_some right || not (is_some o), 23) ∷ []) ++ if_any (many_checks (part_checks no_checks) a_condition) o)) (each_in (condition_said (right_columns tables (paired_said right))) o)
right_conditions_is tables None None = refl
right_conditions_is tables (Some r) None = refl
right_conditions_is tables None (Some d) = refl
right_conditions_is tables (Some r) (Some d) = conditions_is (columns_of tables (text_of r)) d

right_is : (tables : List TableLayout) (right key o : Option Data) → right_side tables (paired_said right) (paired_said key) (each_in (condition_said (right_columns tables (paired_said right))) o) ≡ right_of tables right key o
right_is tables None key o = refl
right_is tables (Some r) None o = refl
right_is tables (Some r) (Some k) o = refl

told_is : (tables : List TableLayout) (left : List ℕ) (right : Option Data) → told_columns tables left (paired_said right) ≡ told_columns_said tables left right
told_is tables left None = refl
told_is tables left (Some r) = refl

abbrev stage_read : List TableLayout → Data → StageLayout
stage_read tables s = record {
  shards = field_or 0 whole_of (get (codes "shards") s);
  left = left_said tables s;
  right = right_said tables s;
  aggregate = aggregate_said tables s;
  cap = field_or 1024 whole_of (get (codes "cap") s);
}

stage_is : (tables : List TableLayout) (s : Data) → stage_at tables s ≡ unless (first_refusal (part_checks (part_checks no_checks) the_stage s)) (stage_read tables s)
unfolding stage_at
stage_is tables s =
    let within = part_checks no_checks in
    let left = text_at (codes "left") s in
    let right = get (codes "right") s in
    let key = get (codes "right_key") s in
    let lefts = columns_of tables left in
    let w = word_at_field (get (codes "aggregate") s) in
    part_is within the_stage s (stage_read tables s) _
    (row _ (whole_at (codes "shards") s) (whole_row (codes "shards") s)
    (row _ left (text_row (codes "left") s)
    (row _ (text_at (codes "left_key") s) (text_row (codes "left_key") s)
    (row _ (paired_said right) (pair_is right key)
    (row _ (paired_said key) (pair_is key right)
    (row _ w (word_optional (get (codes "aggregate") s))
    (row _ (aggregate_of_word (told_columns tables left (paired_said right)) w (text_at (codes "sum") s)) (aggregate_is (told_columns tables left (paired_said right)) w (get (codes "sum") s))
    (row _ (each_in (condition_said lefts) (get (codes "left_where") s)) (is_optional [] (conditions_at lefts) (λ c. map (condition_said lefts) (items_of c)) (many_checks within a_condition) (conditions_is lefts) (get (codes "left_where") s))
    (row _ (each_in (condition_said (right_columns tables (paired_said right))) (get (codes "right_where") s)) (right_conditions_is tables right (get (codes "right_where") s))
    (row _ (field_or 1024 whole_of (get (codes "cap") s)) (is_optional 1024 whole_in whole_of wholes whole_is (get (codes "cap") s))
    (no_more (rw (right_is tables right key (get (codes "right_where") s), told_is tables left right) refl))))))))))))

-- ---- views
view_is : (within : Part → Data → Checks) (lefts rights : List ColumnLayout) (d : Data) → view_at lefts rights d ≡ unless (first_refusal (part_checks within a_view d)) (view_said lefts rights d)
unfolding view_at
view_is within lefts rights d =
    part_is within a_view d (view_said lefts rights d) _
    (row _ (text_at (codes "name") d) (text_row (codes "name") d)
    (row _ (text_at (codes "key") d) (text_row (codes "key") d)
    (row _ (whole_at (codes "shards") d) (whole_row (codes "shards") d)
    (row _ (whole_at (codes "cap") d) (whole_row (codes "cap") d)
    (no_more refl)))))

views_is : (within : Part → Data → Checks) (lefts rights : List ColumnLayout) (d : Data) → views_at lefts rights d ≡ unless (first_refusal (many_checks (part_checks within) a_view d)) (map (view_said lefts rights) (items_of d))
unfolding views_at
views_is within lefts rights d = list_is (view_at lefts rights) (view_said lefts rights) (part_checks within a_view) (view_is within lefts rights) d

-- ---- the whole document
draft_is : (d : Data) → draft_at d ≡ unless (first_refusal (document_checks d)) (draft_said d)
unfolding draft_at
draft_is d =
    let within = part_checks (part_checks no_checks) in
    let tables = tables_said d in
    let s = stage_said d in
    let lefts = side_columns tables (left_said tables s) in
    let rights = right_side_columns tables (right_said tables s) in
    part_is within the_recipe d (draft_said d) _
    (row _ tables (is_needed [] tables_at (λ c. map table_said (items_of c)) (many_checks within a_table) (tables_is (part_checks no_checks)) (get (codes "table") d))
    (row _ (stage_read tables s) (stage_needed tables (get (codes "stage") d))
    (row _ (each_in (view_said lefts rights) (get (codes "view") d)) (is_needed [] (views_at lefts rights) (λ c. map (view_said lefts rights) (items_of c)) (many_checks within a_view) (views_is (part_checks no_checks) lefts rights) (get (codes "view") d))
    (no_more refl))))
  where
    stage_needed : (tables : List TableLayout) (o : Option Data) → needed (stage_at tables) o ≡ unless (first_refusal (((is_some o, 21) ∷ []) ++ if_any (part_checks (part_checks no_checks) the_stage) o)) (stage_read tables (field_or (table no_members) (λ s. s) o))
    stage_needed tables None = refl
    stage_needed tables (Some s) = stage_is tables s

-- reading and judging is going through all checks
pub plan_is : (d : Data) → (draft_at d >>= judged) ≡ plan_at d
unfolding plan_at
plan_is d = bound (document_checks d) (checks (draft_said d)) (draft_said d) (draft_said d) (draft_at d) judged (draft_is d) refl
