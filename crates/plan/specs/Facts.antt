-- What a caller learns of a plan, one fact after the other. All of it follows from the profile.
use Rattle.std.specs.Prelude.{◌≡◌, ℕ, ◌<◌, ◌≤◌, true, List, length, Option, Some, None}
use Rattle.row.specs.Bags.{Each}
use Rattle.plan.specs.Layouts.{TableLayout, SideLayout, ViewLayout, Layout, table_at, column_at}
use Rattle.plan.specs.Profile.{is_name, are_apart, told, is_not_stage, table_names, view_names, both_apart, IsPlan}
use Rattle.plan.specs.declared.kinds.Aggregate.{Aggregate}
use Rattle.plan.specs.declared.kinds.Aggregate.TheVariants.{Count, Sum}
use Rattle.plan.specs.declared.kinds.Kind.TheVariants as kind

-- from the one number to the other
pub record IsFrom (least most n : ℕ) : Type 0 where
  pub least_of : least ≤ n
  pub most_of : n ≤ most

-- P of what is there
abbrev pub IfThere : {A : Type 0} → Option A → (A → Type 0) → Type 0
IfThere None P = Unit {0}
IfThere (Some x) P = P x

-- a name of a table or a view
pub record IsOwnName (name : List ℕ) : Type 0 where
  pub form : is_name name ≡ true
  pub other : is_not_stage name ≡ true

pub record IsTable (t : TableLayout) : Type 0 where
  pub shards : IsFrom 1 8 t.shards
  pub key : t.key < length t.columns
  pub name : IsOwnName t.name

pub record IsSide (p : Layout) (s : SideLayout) : Type 0 where
  pub table : s.table < length p.tables
  pub key : s.key < length (table_at p s.table).columns

-- what is summed is a column of numbers
abbrev pub IsAggregate : TableLayout → Aggregate → Type 0
IsAggregate t Count = Unit {0}
IsAggregate t (Sum c) = (c < length t.columns) × ((column_at t c).kind ≡ kind.Int)

pub record IsView (p : Layout) (v : ViewLayout) : Type 0 where
  pub key : v.key < length (table_at p p.left.table).columns
  pub shards : IsFrom 1 8 v.shards
  pub name : IsOwnName v.name

pub record Facts (p : Layout) : Type 0 where
  pub plan : IsPlan p
  pub few_tables : IsFrom 1 8 (length p.tables)
  pub tables : Each IsTable p.tables
  pub stages : IsFrom 1 8 p.stages
  pub left : IsSide p p.left
  pub right : IfThere p.right (IsSide p)
  pub aggregate : IfThere p.aggregate (IsAggregate (told p))
  pub few_views : IsFrom 1 4 (length p.views)
  pub views : Each (IsView p) p.views
  pub tables_apart : are_apart (table_names p.tables) ≡ true
  pub views_apart : are_apart (view_names p.views) ≡ true
  pub both_apart : both_apart p.tables p.views ≡ true
