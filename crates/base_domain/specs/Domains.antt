-- A base domain.
use Rattle.std.specs.Prelude.{◌≡◌, ℕ, ◌<◌, Bool, List, length, slice_index_or}
use Rattle.row.specs.Bags.{Each}
use Rattle.plan.specs.Layouts.{Layout}
use Rattle.model.specs.Histories.{Author, IsBelow}
use Rattle.model.specs.Places.{layout_of, table_of}
use Rattle.model.specs.Legal.{limit}
use Rattle.model.specs.Fronts.{LogView}
use Rattle.base.specs.Shards.{Shard, IsAt}
use Rattle.protocol.specs.Bases.{next_of}

-- the least numbers that next writes may have are just above those of the log
abbrev pub AreNext : List ℕ → List Author → Type 0
AreNext next authors = (s : ℕ) → s < length next → slice_index_or next s 0 ≡ next_of s authors

-- the shard stands at the front, under its table's key and the limit of a log, and the next numbers are those of the log
pub record HoldsTruth (p : Layout) (table : ℕ) (log : LogView) (authors : List Author) (shard : Shard) (next : List ℕ) : Type 0 where
  pub plan : log.plan ≡ p
  pub own : table ≡ table_of p log.base
  pub place : table < length p.tables
  pub at : IsAt shard log.entries
  pub key : shard.key ≡ (layout_of p log.base).key
  pub room : shard.limit ≡ limit
  pub numbers : AreNext next authors
  pub below : Each (IsBelow next) authors
  pub written : length authors ≡ length log.entries

-- the front at which it appends, for each session the least number that its next write may have, and whether it has stopped
pub record Domain (F : Type 0) : Type 0 where
  pub front : F
  pub next : List ℕ
  pub stopped : Bool
