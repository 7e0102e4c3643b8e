-- Histories: their items, the logs of the base shards, the floors of the sessions.
use Rattle.std.specs.Prelude.{◌≡◌, ℕ, ◌<◌, ◌==◌, cond, ◌&&◌, List, [], ◌∷◌, flat_map, slice_index_or}
use Rattle.row.specs.Cells.{Datum, Cells, shard}
use Rattle.plan.specs.Layouts.{Layout, view_at}
use Rattle.model.specs.Logs.{Change}

-- a length for each stage shard and each source
abbrev pub Lengths : Type 0
Lengths = List (List ℕ)

-- the length of source j at stage shard s (0 where there is none)
abbrev pub len_at : Lengths → ℕ → ℕ → ℕ
len_at cut s j = slice_index_or (slice_index_or cut s []) j 0

-- the two cuts have the same lengths
abbrev pub IsSame : Lengths → Lengths → Type 0
IsSame c d = (s j : ℕ) → len_at c s j ≡ len_at d s j

-- a cut for each shard of each view
abbrev pub Floors : Type 0
Floors = List (List Lengths)

-- the floor at shard j of view i
abbrev pub floor_at : Floors → ℕ → ℕ → Lengths
floor_at floors i j = slice_index_or (slice_index_or floors i []) j []

-- a place in a log
pub record Place : Type 0 where
  pub base : ℕ
  pub index : ℕ

-- a write, a read or a fence, each of a session
pub data Item : Type 0 where
  write : (session number base : ℕ) → (entry : Change) → Item
  read : (session view : ℕ) → (key : Datum) → (rows : List Cells) → (cut : Lengths) → Item
  fence : (session : ℕ) → (own : List Place) → (floors : Floors) → Item

-- the entry that an item adds to the log of base shard b
abbrev pub entry_in : ℕ → Item → List Change
entry_in b (write s m c e) = cond (c == b) (e ∷ []) []
entry_in b (read s i k rows cut) = []
entry_in b (fence s own floors) = []

-- the log of base shard b
abbrev pub log_of : ℕ → List Item → List Change
log_of b h = flat_map (entry_in b) h

-- who wrote it, and under which number
pub record Author : Type 0 where
  pub session : ℕ
  pub number : ℕ

-- the author's number is below the one that its session's next write may have
abbrev pub IsBelow : List ℕ → Author → Type 0
IsBelow next a = a.number < slice_index_or next a.session 0

-- the author that an item adds to it
abbrev pub author_in : ℕ → Item → List Author
author_in b (write s m c e) = cond (c == b) (record { session = s; number = m } ∷ []) []
author_in b (read s i k rows cut) = []
author_in b (fence s own floors) = []

-- the author of each entry of the log
abbrev pub authors_of : ℕ → List Item → List Author
authors_of b h = flat_map (author_in b) h

-- the shard of view i that has the key
abbrev pub view_shard : Layout → ℕ → Datum → ℕ
view_shard p i k = shard k (view_at p i).shards

-- the floor that an item gives the session at shard j of view i
abbrev pub floor_in : Layout → ℕ → ℕ → ℕ → Item → List Lengths
floor_in p me i j (write s m b e) = []
floor_in p me i j (read s v k rows cut) = cond ((s == me) && ((v == i) && (view_shard p v k == j))) (cut ∷ []) []
floor_in p me i j (fence s own floors) = cond (s == me) (floor_at floors i j ∷ []) []

-- the last of a list, or what stands before it
abbrev pub last_or : {A : Type 0} → A → List A → A
last_or d [] = d
last_or d (x ∷ xs) = last_or x xs

-- the last of them, and all zeros before ([] has length 0 everywhere)
abbrev pub floor_of : Layout → ℕ → ℕ → ℕ → List Item → Lengths
floor_of p me i j h = last_or [] (flat_map (floor_in p me i j) h)
