-- The facts of a plan, from the checks that it goes through.
use Rattle.std.proofs.Common.{◌≡◌, ℕ, zero, suc, ◌<◌, ◌≤◌, Bool, true, false, List, [], ◌∷◌, length, refl, arith, Option, Some, None, slice_index_or, slice_get}
use Rattle.std.specs.Prelude.{nat_le}
use Rattle.std.specs.Option.{option_map}
use Rattle.std.specs.List.{list_all}
use Rattle.std.proofs.lemmas.Bool.Decides.{nat_tests}
use Rattle.row.specs.Bags.{Each}
use Rattle.plan.specs.Layouts.{ColumnLayout, TableLayout, SideLayout, ViewLayout, Layout, table_at, no_column}
use Rattle.plan.specs.Profile.{is_from, if_there, is_one_kind, told, table_is_small, view_is_small, keeps_limits, is_not_stage, table_is_apart, has_own_names, key_is_known, side_is_known, has_known_places, has_single_paths, view_is_keyed, has_left_keys, is_aggregate, has_one_kind, refusal_unless, IsPlan}
use Rattle.plan.specs.Facts.{IsFrom, IfThere, IsTable, IsSide, IsAggregate, IsView, Facts}
use Rattle.plan.specs.declared.kinds.Aggregate.{Aggregate}
use Rattle.plan.specs.declared.kinds.Aggregate.TheVariants.{Count, Sum}
use Rattle.plan.specs.declared.kinds.Kind.{Kind}
use Rattle.plan.specs.declared.kinds.Kind.TheVariants as kind
use Rattle.plan.proofs.Both.{both}
use Rattle.row.proofs.Filtered.{lt_of}

-- ---- what a test shows
pub le_of : (a b : ℕ) → nat_le a b ≡ true → a ≤ b
le_of a b h = grind (arith, nat_tests)

from_of : (least most n : ℕ) → is_from least most n ≡ true → IsFrom least most n
from_of least most n h = let k = both h in record { least_of = le_of least n k.0; most_of = le_of n most k.1 }

there_of : {A : Type 0} (p : A → Bool) (P : A → Type 0) → ((x : A) → p x ≡ true → P x) → (o : Option A) → if_there p o ≡ true → IfThere o P
there_of p P f None h = tt
there_of p P f (Some x) h = f x h

-- three tests of each
each_of : {X : Type 0} (p q r : X → Bool) (P : X → Type 0) → ((x : X) → p x ≡ true → q x ≡ true → r x ≡ true → P x) → (xs : List X) → list_all p xs ≡ true → list_all q xs ≡ true → list_all r xs ≡ true → Each P xs
each_of p q r P f [] a b c = tt
each_of p q r P f (x ∷ xs) a b c =
    let d = both {a = p x} {b = list_all p xs} a in
    let e = both {a = q x} {b = list_all q xs} b in
    let g = both {a = r x} {b = list_all r xs} c in
    (f x d.0 e.0 g.0, each_of p q r P f xs d.1 e.1 g.1)

table_of : (t : TableLayout) → table_is_small t ≡ true → table_is_apart t ≡ true → key_is_known t ≡ true → IsTable t
table_of t small apart known =
    let a = both small in
    let b = both a.1 in
    let c = both b.1 in
    record { shards = from_of 1 8 t.shards a.0; key = lt_of t.key (length t.columns) known; name = record { form = c.0; other = (both apart).0 } }

side_of : (p : Layout) (s : SideLayout) → side_is_known p s ≡ true → IsSide p s
side_of p s known =
    let a = both known in
    let b = both a.1 in
    record { table = lt_of s.table (length p.tables) a.0; key = lt_of s.key (length (table_at p s.table).columns) b.0 }

view_of : (p : Layout) (v : ViewLayout) → view_is_small v ≡ true → is_not_stage v.name ≡ true → view_is_keyed p v ≡ true → IsView p v
view_of p v small other keyed =
    let a = both small in
    let b = both a.1 in
    record { key = lt_of v.key (length (table_at p p.left.table).columns) (both keyed).0; shards = from_of 1 8 v.shards a.0; name = record { form = b.1; other = other } }

number_of : (k : Kind) → is_one_kind (Some k) (Some kind.Int) ≡ true → k ≡ kind.Int
number_of kind.Int h = refl
number_of kind.Text h = absurd cc

-- a column that is of numbers is there
column_of : (cs : List ColumnLayout) (c : ℕ) → is_one_kind (option_map (λ (x : ColumnLayout). x.kind) (slice_get cs c)) (Some kind.Int) ≡ true → (c < length cs) × ((slice_index_or cs c no_column).kind ≡ kind.Int)
column_of [] c h = absurd cc
column_of (x ∷ cs) zero h = (omega arith, number_of x.kind h)
column_of (x ∷ cs) (suc c) h = let r = column_of cs c h in (let k = r.0 in omega arith, r.1)

aggregate_of : (t : TableLayout) (a : Option Aggregate) → is_aggregate t a ≡ true → IfThere a (IsAggregate t)
aggregate_of t None h = tt
aggregate_of t (Some Count) h = tt
aggregate_of t (Some (Sum c)) h = column_of t.columns c h

-- ---- a plan goes through each check
pub not_refused : (b : Bool) (n : ℕ) (rest : Option ℕ) → refusal_unless b n rest ≡ None → (b ≡ true) × (rest ≡ None)
not_refused true n rest h = (refl, h)
not_refused false n rest h = absurd cc

pub facts : (p : Layout) → IsPlan p → Facts p
unfolding IsPlan
facts p plan =
    let l = not_refused (keeps_limits p) 26 _ plan in
    let n = not_refused (has_own_names p) 27 _ l.1 in
    let k = not_refused (has_known_places p) 22 _ n.1 in
    let s = not_refused (has_single_paths p) 24 _ k.1 in
    let v = not_refused (has_left_keys p) 25 _ s.1 in
    let g = not_refused (has_one_kind p) 23 _ v.1 in
    let tables = both (both l.0).0 in
    let rest = both (both l.0).1 in
    let names = both (both n.0).0 in
    let own = both (both n.0).1 in
    let places = both k.0 in
    let sides = both (both places.1).0 in
    record {
      plan = plan;
      few_tables = from_of 1 8 (length p.tables) tables.0;
      tables = each_of table_is_small table_is_apart key_is_known IsTable table_of p.tables tables.1 own.0 places.0;
      stages = from_of 1 8 p.stages (both rest.0).0;
      left = side_of p p.left sides.0;
      right = there_of (side_is_known p) (IsSide p) (side_of p) p.right sides.1;
      aggregate = aggregate_of (told p) p.aggregate (both (both g.0).1).0;
      few_views = from_of 1 4 (length p.views) (both rest.1).0;
      views = each_of view_is_small (λ (w : ViewLayout). is_not_stage w.name) (view_is_keyed p) (IsView p) (view_of p) p.views (both rest.1).1 own.1 v.0;
      tables_apart = names.0;
      views_apart = (both names.1).0;
      both_apart = (both names.1).1;
    }
