-- Words of recipes, what a value says where it is of the kind, and places by names.
use Rattle.std.specs.Prelude.{◌==◌, ℕ, nat_lt, ◌+◌, ℤ, pos, negsuc, Bool, true, false, ◌&&◌, ◌||◌, cond, List, [], ◌∷◌, length, codes, Option, Some, None, slice_index_or, position, String, string_bytes}
use Rattle.std.specs.declared.alloc.Global.{Global}
use Rattle.std.specs.Option.{unwrap_or}
use Rattle.std.specs.Str.{bytes_eq}
use Rattle.plan.specs.Layouts.{ColumnLayout, TableLayout, SideLayout, no_table}
use Rattle.plan.specs.declared.kinds.Kind.{Kind}
use Rattle.plan.specs.declared.kinds.Kind.TheVariants as kind
use Rattle.plan.specs.declared.kinds.Op.{Op}
use Rattle.plan.specs.declared.kinds.Op.TheVariants as op
use Rattle.toml.specs.Data.{Data, Items, no_items, item, Members, no_members, member, as_str, as_integer, as_array, as_table}
use Rattle.document.specs.declared.word.Word.{Word}
use Rattle.document.specs.declared.word.Word.TheVariants as word

-- ---- what a value says, and nothing, 0 or the like where it is of another kind
abbrev pub text_of : Data → List ℕ
text_of d = unwrap_or (as_str d) []

-- a negative number counts as 0, which no limit allows
abbrev pub natural : ℤ → ℕ
natural (pos n) = n
natural (negsuc n) = 0

abbrev pub whole_of : Data → ℕ
whole_of d = natural (unwrap_or (as_integer d) (pos 0))

abbrev pub listed : Items → List Data
listed no_items = []
listed (item d ds) = d ∷ listed ds

abbrev pub items_of : Data → List Data
items_of d = listed (unwrap_or (as_array d) no_items)

abbrev pub members_of : Data → Members
members_of d = unwrap_or (as_table d) no_members

-- no other names than these
abbrev pub is_one_of : List (List ℕ) → List ℕ → Bool
is_one_of [] name = false
is_one_of (x ∷ xs) name = bytes_eq name x || is_one_of xs name

-- the name of a member is one of these
abbrev pub is_field : List (List ℕ) → String Global → Bool
is_field names k = is_one_of names (string_bytes k)

abbrev pub has_only : List (List ℕ) → Members → Bool
has_only names no_members = true
has_only names (member k d ms) = is_one_of names k && has_only names ms

-- ---- words
abbrev pub kind_of : List ℕ → Option Kind
kind_of name = cond (bytes_eq name (codes "int")) (Some kind.Int) (cond (bytes_eq name (codes "text")) (Some kind.Text) None)

abbrev pub op_of : List ℕ → Option Op
op_of t =
    cond (bytes_eq t (codes "=")) (Some op.Equal) (cond (bytes_eq t (codes "!=")) (Some op.NotEqual) (cond (bytes_eq t (codes "<")) (Some op.Less)
    (cond (bytes_eq t (codes "<=")) (Some op.AtMost) (cond (bytes_eq t (codes ">")) (Some op.Greater) (cond (bytes_eq t (codes ">=")) (Some op.AtLeast) None)))))

abbrev pub word_of : List ℕ → Option Word
word_of t = cond (bytes_eq t (codes "count")) (Some word.Count) (cond (bytes_eq t (codes "sum")) (Some word.Sum) None)

-- the word at a field, if it is there
abbrev pub word_at_field : Option Data → Option Word
word_at_field None = None
word_at_field (Some d) = word_of (text_of d)

-- what stands between a column's name and its kind
abbrev pub is_space : ℕ → Bool
is_space b = b == 32

-- ---- places: past the end where there is no such name
abbrev pub at_or_end : Option ℕ → ℕ → ℕ
at_or_end None n = n
at_or_end (Some i) n = i

abbrev pub column_place : List ColumnLayout → List ℕ → ℕ
column_place columns name = at_or_end (position (λ (c : ColumnLayout). bytes_eq c.name name) columns) (length columns)

abbrev pub table_place : List TableLayout → List ℕ → ℕ
table_place tables name = at_or_end (position (λ (t : TableLayout). bytes_eq t.name name) tables) (length tables)

-- the columns of the table with the name, if there is one
abbrev pub columns_of : List TableLayout → List ℕ → List ColumnLayout
columns_of tables name = (slice_index_or tables (table_place tables name) no_table).columns

-- those of the table at the side's place
abbrev pub side_columns : List TableLayout → SideLayout → List ColumnLayout
side_columns tables s = (slice_index_or tables s.table no_table).columns

abbrev pub right_side_columns : List TableLayout → Option SideLayout → List ColumnLayout
right_side_columns tables None = []
right_side_columns tables (Some s) = side_columns tables s

-- a column of the left table or, behind those, of the right one
abbrev pub column_of_both : List ColumnLayout → List ColumnLayout → List ℕ → ℕ
column_of_both lefts rights name = cond (nat_lt (column_place lefts name) (length lefts)) (column_place lefts name) (length lefts + column_place rights name)
