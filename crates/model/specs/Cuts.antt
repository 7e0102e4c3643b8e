-- Cuts: for each stage shard a length of each source's log.
use Rattle.std.specs.Prelude.{◌≡◌, ℕ, ◌<◌, ◌≤◌, List, [], ◌∷◌, length, take, slice_index_or}
use Rattle.plan.specs.Layouts.{Layout}
use Rattle.model.specs.Places.{sources, source_at}
use Rattle.model.specs.Queries.{Line}
use Rattle.model.specs.Histories.{Item, Lengths, len_at, log_of}

-- each length is at most that of the other
abbrev pub IsAtMost : Lengths → Lengths → Type 0
IsAtMost c d = (s j : ℕ) → len_at c s j ≤ len_at d s j

-- the fronts that a line names, of these base shards
abbrev pub line_of : List Item → List ℕ → List ℕ → Line
line_of h [] ns = []
line_of h (b ∷ bs) [] = []
line_of h (b ∷ bs) (n ∷ ns) = take n (log_of b h) ∷ line_of h bs ns

-- the fronts that a cut names
abbrev pub fronts_of : Layout → List Item → Lengths → List Line
fronts_of p h [] = []
fronts_of p h (ns ∷ nss) = line_of h (sources p) ns ∷ fronts_of p h nss

-- a line for each stage shard, a length for each source, none above its log's
pub record IsWithin (p : Layout) (h : List Item) (cut : Lengths) : Type 0 where
  pub stages : length cut ≡ p.stages
  pub lines : (s : ℕ) → s < p.stages → length (slice_index_or cut s []) ≡ length (sources p)
  pub lengths : (s j : ℕ) → len_at cut s j ≤ length (log_of (source_at p j) h)
