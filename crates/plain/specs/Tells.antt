-- Tests, and what they tell.
use Rattle.std.specs.Prelude.{◌≡◌, ℕ, ◌<◌, ◌≤◌, Bool, true, false, List, length, slice_index_or}
use Rattle.plan.specs.Layouts.{Layout}
use Rattle.model.specs.Places.{sources, source_at}
use Rattle.model.specs.Histories.{Item, log_of}

-- the test says whether P holds
abbrev pub Tells : Bool → Type 0 → Type 0
Tells true P = P
Tells false P = P → ⊥

-- a length for each source, none above its log's
pub record IsLineWithin (p : Layout) (h : List Item) (line : List ℕ) : Type 0 where
  pub width : length line ≡ length (sources p)
  pub lengths : (j : ℕ) → slice_index_or line j 0 ≤ length (log_of (source_at p j) h)

-- the base shard is a source of the stage
pub record IsSource (p : Layout) (base : ℕ) : Type 0 where
  pub source : ℕ
  pub there : source < length (sources p)
  pub is : source_at p source ≡ base
