-- Numbers of base shards: those of the first table in order, then those of the next. Sources are some of them.
use Rattle.std.specs.Prelude.{◌≡◌, ◌<◌, ℕ, zero, suc, ◌+◌, ◌-◌, nat_lt, cond, List, [], ◌∷◌, ◌++◌, length, Option, Some, None, slice_index_or}
use Rattle.std.specs.List.{range_with_len}
use Rattle.plan.specs.Layouts.{TableLayout, SideLayout, Layout, table_at}
use Rattle.plan.specs.declared.domain.DomainId.{DomainId}
use Rattle.plan.specs.declared.domain.DomainId.TheVariants as domain

-- how many base shards the first t tables have
abbrev pub shards_before : List TableLayout → ℕ → ℕ
shards_before [] t = 0
shards_before (x ∷ ts) zero = 0
shards_before (x ∷ ts) (suc t) = x.shards + shards_before ts t

-- how many base shards the plan has
abbrev pub base_count : Layout → ℕ
base_count p = shards_before p.tables (length p.tables)

-- the number of shard j of table t
abbrev pub base_at : Layout → ℕ → ℕ → ℕ
base_at p t j = shards_before p.tables t + j

-- the table of a number, and which of its shards it is
abbrev pub table_in : List TableLayout → ℕ → ℕ
table_in [] b = 0
table_in (x ∷ ts) b = cond (nat_lt b x.shards) 0 (suc (table_in ts (b - x.shards)))

abbrev pub shard_in : List TableLayout → ℕ → ℕ
shard_in [] b = b
shard_in (x ∷ ts) b = cond (nat_lt b x.shards) b (shard_in ts (b - x.shards))

-- the table of a base shard, and which of its shards it is
abbrev pub table_of : Layout → ℕ → ℕ
table_of p b = table_in p.tables b

abbrev pub shard_of : Layout → ℕ → ℕ
shard_of p b = shard_in p.tables b

-- the table itself
abbrev pub layout_of : Layout → ℕ → TableLayout
layout_of p b = table_at p (table_of p b)

-- how many shards the side's table has
abbrev pub side_count : Layout → SideLayout → ℕ
side_count p side = (table_at p side.table).shards

-- the base shards of a side's table, in order
abbrev pub side_bases : Layout → SideLayout → List ℕ
side_bases p side = range_with_len (base_at p side.table 0) (side_count p side)

-- those of the right table, if there is one
abbrev pub right_bases : Layout → Option SideLayout → List ℕ
right_bases p None = []
right_bases p (Some side) = side_bases p side

-- the sources of the stage: the shards of the left table, then those of the right one
abbrev pub sources : Layout → List ℕ
sources p = side_bases p p.left ++ right_bases p p.right

-- the base shard that a source is
abbrev pub source_at : Layout → ℕ → ℕ
source_at p j = slice_index_or (sources p) j 0

-- the base shard is that shard of that table
pub record IsPlaceOf (p : Layout) (b : ℕ) (place : ℕ × ℕ) : Type 0 where
  pub there : b < base_count p
  pub range : place.0 < length p.tables
  pub table : place.0 ≡ table_of p b
  pub shard : place.1 ≡ shard_of p b

-- the number of a domain that is a base shard
abbrev pub number_of : Layout → DomainId → ℕ
number_of p (domain.Base t j) = base_at p t j
number_of p (domain.Stage j) = 0
number_of p (domain.View i j) = 0
