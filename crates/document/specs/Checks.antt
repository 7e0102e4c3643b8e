-- The fields of recipes as rows of a table, and what is checked for them, in the order of the document.
use Rattle.std.specs.Prelude.{ℕ, Bool, true, false, ◌&&◌, ◌||◌, not, List, [], ◌∷◌, ◌++◌, map, flat_map, codes, Option, Some, None}
use Rattle.std.specs.List.{before_first, after_first}
use Rattle.std.specs.Option.{is_some}
use Rattle.toml.specs.Data.{Data, get, as_str, as_integer, as_array, as_table}
use Rattle.document.specs.Words.{text_of, items_of, members_of, has_only, kind_of, op_of, word_of, word_at_field, is_space}
use Rattle.document.specs.declared.word.Word.{Word}
use Rattle.document.specs.declared.word.Word.TheVariants as word

-- the parts that have fields
pub data Part : Type 0 where
  the_recipe : Part
  a_table : Part
  the_stage : Part
  a_condition : Part
  a_view : Part

-- what a field holds; `columns` are texts, each a name, one space, and a kind
pub data Holds : Type 0 where
  a_text : Holds
  a_whole_number : Holds
  a_number_or_text : Holds
  a_comparison : Holds
  an_aggregate : Holds
  columns : Holds
  one : Part → Holds
  many : Part → Holds

-- when it is there
pub data Need : Type 0 where
  always : Need
  perhaps : Need
  exactly_with : (partner : List ℕ) → Need
  only_with : (other : List ℕ) → Need
  exactly_for_sum : Need

-- a row of the table
pub record Field : Type 0 where
  pub name : List ℕ
  pub holds : Holds
  pub need : Need

abbrev pub field : List ℕ → Holds → Need → Field
field name holds need = record { name = name; holds = holds; need = need }

-- fields that are all needed
abbrev pub always_there : List (List ℕ × Holds) → List Field
always_there fields = map (λ (f : List ℕ × Holds). field f.0 f.1 always) fields

-- ---- the table
abbrev pub fields_of : Part → List Field
fields_of the_recipe = always_there ((codes "table", many a_table) ∷ (codes "stage", one the_stage) ∷ (codes "view", many a_view) ∷ [])
fields_of a_table = always_there ((codes "name", a_text) ∷ (codes "shards", a_whole_number) ∷ (codes "key", a_text) ∷ (codes "columns", columns) ∷ [])
fields_of the_stage =
    field (codes "shards") a_whole_number always
    ∷ field (codes "left") a_text always
    ∷ field (codes "left_key") a_text always
    ∷ field (codes "right") a_text (exactly_with (codes "right_key"))
    ∷ field (codes "right_key") a_text (exactly_with (codes "right"))
    ∷ field (codes "aggregate") an_aggregate perhaps
    ∷ field (codes "sum") a_text exactly_for_sum
    ∷ field (codes "left_where") (many a_condition) perhaps
    ∷ field (codes "right_where") (many a_condition) (only_with (codes "right"))
    ∷ field (codes "cap") a_whole_number perhaps
    ∷ []
fields_of a_condition = always_there ((codes "column", a_text) ∷ (codes "op", a_comparison) ∷ (codes "value", a_number_or_text) ∷ [])
fields_of a_view = always_there ((codes "name", a_text) ∷ (codes "key", a_text) ∷ (codes "shards", a_whole_number) ∷ (codes "cap", a_whole_number) ∷ [])

-- the names of the fields of a part
abbrev pub names_of : Part → List (List ℕ)
names_of part = map (λ (f : Field). f.name) (fields_of part)

-- ---- checks: what must hold, and the number of the refusal where it does not
abbrev pub Checks : Type 0
Checks = List (Bool × ℕ)

-- a field or a partner is missing
abbrev pub missing : ℕ
missing = 21

-- something is of another kind, or not listed
abbrev pub mistyped : ℕ
mistyped = 23

abbrev pub has : List ℕ → Data → Bool
has name d = is_some (get name d)

abbrev pub is_sum : Option Word → Bool
is_sum None = false
is_sum (Some word.Count) = false
is_sum (Some word.Sum) = true

-- the member asks for a sum
abbrev pub asks_sum : Data → Bool
asks_sum d = is_sum (word_at_field (get (codes "aggregate") d))

-- of a field that is there, or not, in the member
abbrev pub need_checks : Need → Bool → Data → Checks
need_checks always there d = (there, missing) ∷ []
need_checks perhaps there d = []
need_checks (exactly_with partner) there d = (there || not (has partner d), missing) ∷ []
need_checks (only_with other) there d = (has other d || not there, mistyped) ∷ []
need_checks exactly_for_sum there d = (asks_sum d || not there, mistyped) ∷ (there || not (asks_sum d), missing) ∷ []

-- one or more bytes without a space, a space, and `int` or `text`
abbrev pub has_bytes : List ℕ → Bool
has_bytes [] = false
has_bytes (b ∷ bs) = true

abbrev pub is_column : List ℕ → Bool
is_column t = has_bytes (before_first is_space t) && is_some (kind_of (after_first is_space t))

abbrev pub column_checks : Data → Checks
column_checks d = (is_some (as_str d), mistyped) ∷ (is_column (text_of d), mistyped) ∷ []

-- of what a field holds, and of the parts within it
abbrev pub kind_checks : (Part → Data → Checks) → Holds → Data → Checks
kind_checks within a_text d = (is_some (as_str d), mistyped) ∷ []
kind_checks within a_whole_number d = (is_some (as_integer d), mistyped) ∷ []
kind_checks within a_number_or_text d = (is_some (as_str d) || is_some (as_integer d), mistyped) ∷ []
kind_checks within a_comparison d = (is_some (as_str d), mistyped) ∷ (is_some (op_of (text_of d)), mistyped) ∷ []
kind_checks within an_aggregate d = (is_some (as_str d), mistyped) ∷ (is_some (word_of (text_of d)), mistyped) ∷ []
kind_checks within columns d = (is_some (as_array d), mistyped) ∷ flat_map column_checks (items_of d)
kind_checks within (one part) d = within part d
kind_checks within (many part) d = (is_some (as_array d), mistyped) ∷ flat_map (within part) (items_of d)

abbrev pub if_any : (Data → Checks) → Option Data → Checks
if_any checks None = []
if_any checks (Some d) = checks d

-- of a field of the member: whether it is needed, then its kind
abbrev pub field_checks : (Part → Data → Checks) → Data → Field → Checks
field_checks within d f = need_checks f.need (has f.name d) d ++ if_any (kind_checks within f.holds) (get f.name d)

-- of a member: its kind, each field of its part, then that no other is there
abbrev pub part_checks : (Part → Data → Checks) → Part → Data → Checks
part_checks within part d =
    (is_some (as_table d), mistyped)
    ∷ (flat_map (field_checks within d) (fields_of part) ++ (has_only (names_of part) (members_of d), mistyped) ∷ [])

-- conditions have no parts, the stage has conditions, the recipe has tables, a stage and views
abbrev pub no_checks : Part → Data → Checks
no_checks part d = []

abbrev pub document_checks : Data → Checks
document_checks d = part_checks (part_checks (part_checks no_checks)) the_recipe d
