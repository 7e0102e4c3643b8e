-- Which histories are legal: each item is allowed by the items before it.
use Rattle.std.specs.Prelude.{◌≡◌, ℕ, ◌<◌, true, List, [], ◌∷◌, ◌++◌, length, slice_get, Some}
use Rattle.row.specs.Cells.{Datum, Cells, shard}
use Rattle.row.specs.Bags.{Each}
use Rattle.plan.specs.Layouts.{Layout, view_at}
use Rattle.model.specs.Logs.{Change, key_of, fits, lawful}
use Rattle.model.specs.Places.{base_count, layout_of, shard_of, sources, source_at}
use Rattle.model.specs.Queries.{answer}
use Rattle.model.specs.Histories.{Item, write, read, fence, Lengths, len_at, Floors, floor_at, floor_of, Place, Author, log_of, authors_of, view_shard}
use Rattle.model.specs.Cuts.{IsAtMost, fronts_of, IsWithin}

-- the most entries of a log
abbrev pub limit : ℕ
limit = 4294967295

-- the entry fits its table, is in its shard, is lawful there, has room, and its number is above those of the session in that log
pub record AllowsWrite (p : Layout) (h : List Item) (s m b : ℕ) (e : Change) : Type 0 where
  pub base : b < base_count p
  pub fits : fits (layout_of p b) e ≡ true
  pub shard : shard_of p b ≡ shard (key_of (layout_of p b).key e) (layout_of p b).shards
  pub lawful : lawful (layout_of p b).key (log_of b h) e ≡ true
  pub room : length (log_of b h) < limit
  pub number : Each (λ (a : Author). a.session ≡ s → a.number < m) (authors_of b h)

-- the cut is within the logs and at least the floor, and the rows are the answer over it
pub record AllowsRead (p : Layout) (n : ℕ) (h : List Item) (s i : ℕ) (k : Datum) (rows : List Cells) (cut : Lengths) : Type 0 where
  pub session : s < n
  pub view : i < length p.views
  pub within : IsWithin p h cut
  pub floor : IsAtMost (floor_of p s i (view_shard p i k) h) cut
  pub answers : rows ≡ answer p (fronts_of p h cut) i k

-- P of each shard of each view
abbrev pub EachShard : Layout → (ℕ → ℕ → Type 0) → Type 0
EachShard p P = (i j : ℕ) → i < length p.views → j < (view_at p i).shards → P i j

-- every stage shard's line of the cut goes past the place
abbrev pub IsPast : Layout → Lengths → Place → Type 0
IsPast p cut x = (s j : ℕ) → s < p.stages → j < length (sources p) → source_at p j ≡ x.base → x.index < len_at cut s j

-- the place is in a source, and the session wrote what stands there
pub record IsOwn (p : Layout) (h : List Item) (s : ℕ) (x : Place) : Type 0 where
  pub source : ℕ
  pub there : source < length (sources p)
  pub base : source_at p source ≡ x.base
  pub number : ℕ
  pub wrote : slice_get (authors_of x.base h) x.index ≡ Some (record { session = s; number = number })

-- each floor is a cut within the logs, at least the old floor, and past each own place
pub record AllowsFence (p : Layout) (n : ℕ) (h : List Item) (s : ℕ) (own : List Place) (floors : Floors) : Type 0 where
  pub session : s < n
  pub within : EachShard p (λ i j. IsWithin p h (floor_at floors i j))
  pub floor : EachShard p (λ i j. IsAtMost (floor_of p s i j h) (floor_at floors i j))
  pub past : EachShard p (λ i j. Each (IsPast p (floor_at floors i j)) own)
  pub written : Each (IsOwn p h s) own

-- the item is allowed after the history
abbrev pub Allows : Layout → ℕ → List Item → Item → Type 0
Allows p n h (write s m b e) = AllowsWrite p h s m b e
Allows p n h (read s i k rows cut) = AllowsRead p n h s i k rows cut
Allows p n h (fence s own floors) = AllowsFence p n h s own floors

-- each item is allowed by those before it
abbrev pub IsLegalAfter : Layout → ℕ → List Item → List Item → Type 0
IsLegalAfter p n past [] = Unit {0}
IsLegalAfter p n past (i ∷ rest) = Allows p n past i × IsLegalAfter p n (past ++ i ∷ []) rest

-- the most sessions of a book
abbrev pub most_sessions : ℕ
most_sessions = 16

-- of n sessions
abbrev pub IsLegal : Layout → ℕ → List Item → Type 0
IsLegal p n h = IsLegalAfter p n [] h
