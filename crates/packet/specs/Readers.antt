-- Who reads the stage, which side of it a base shard is, and what tags name.
use Rattle.std.specs.Prelude.{ℕ, zero, suc, ◌==◌, ◌&&◌, Bool, cond, List, map, flat_map, length, nat_lt, Option, Some, None}
use Rattle.std.specs.List.{range_with_len}
use Rattle.row.specs.Cells.{Datum}
use Rattle.plan.specs.Layouts.{SideLayout, Layout, view_at}
use Rattle.model.specs.Places.{table_of, side_count}
use Rattle.model.specs.Histories.{view_shard}

-- a shard of a view: each reads all stage shards
pub record Reader : Type 0 where
  pub view : ℕ
  pub shard : ℕ

-- the shards of view i
abbrev pub readers_of : Layout → ℕ → List Reader
readers_of p i = map (λ j. record { view = i; shard = j }) (range_with_len 0 (view_at p i).shards)

-- the shards of all views, view by view
abbrev pub readers : Layout → List Reader
readers p = flat_map (readers_of p) (range_with_len 0 (length p.views))

-- it is shard j of view i
abbrev pub is_reader : ℕ → ℕ → Reader → Bool
is_reader i j r = (r.view == i) && (r.shard == j)

-- key k of view i is the reader's
abbrev pub is_of : Layout → ℕ → Datum → Reader → Bool
is_of p i k r = is_reader i (view_shard p i k) r

-- the right side, where it is of table t
abbrev pub right_side : ℕ → Option SideLayout → Option SideLayout
right_side t None = None
right_side t (Some side) = cond (t == side.table) (Some side) None

-- the side of the stage that table t is, if it is one
abbrev pub side_in : Layout → ℕ → Option SideLayout
side_in p t = cond (t == p.left.table) (Some p.left) (right_side t p.right)

-- the side that base shard b is of, if its table is one of the stage
abbrev pub side_of : Layout → ℕ → Option SideLayout
side_of p b = side_in p (table_of p b)

-- source j is of the left side
abbrev pub is_left : Layout → ℕ → Bool
is_left p j = nat_lt j (side_count p p.left)

-- ---- tags: 0 fills the right side, one more than its place a view
-- the tag of the right side
abbrev pub right_tag : ℕ
right_tag = 0

-- the tag of view i
abbrev pub tag_of : ℕ → ℕ
tag_of i = suc i

-- the view that a tag fills
abbrev pub view_of : ℕ → ℕ
view_of zero = 0
view_of (suc i) = i
