-- Sessions, as their callers see them.
use Rattle.std.specs.Prelude.{◌≡◌, ℕ, Bool, List, length, map, replicate, slice_get, slice_index_or, Option, Some, None}
use Rattle.packet.specs.Truth.{Pointwise}
use Rattle.row.specs.Bags.{Each}
use Rattle.plan.specs.Layouts.{Layout}
use Rattle.model.specs.Places.{base_count, sources}
use Rattle.model.specs.Histories.{Item, Lengths, Floors, floor_at, log_of, authors_of}
use Rattle.model.specs.Cuts.{IsAtMost}
use Rattle.model.specs.Legal.{EachShard}
use Rattle.packet.specs.Readers.{Reader, readers}
use Rattle.shown.specs.Snapshots.{Snapshot, IsLater}

-- who it is, the number of its next call, how many reads and fences it has answered, whether its word was found moved by another, what it has seen, the greatest index accepted in each base shard, its floors, and what it has last looked at of each shard of each view
pub record Caller : Type 0 where
  pub session : ℕ
  pub number : ℕ
  pub answered : ℕ
  pub stolen : Bool
  pub seen : List Item
  pub accepted : List (Option ℕ)
  pub floors : Floors
  pub shown : List Snapshot

-- the entry at that place of the history is the session's
pub record IsWrote (h : List Item) (s b k : ℕ) : Type 0 where
  pub number : ℕ
  pub author : slice_get (authors_of b h) k ≡ Some (record { session = s; number = number })

-- the greatest index accepted in base shard b
abbrev pub accepted_at : List (Option ℕ) → ℕ → Option ℕ
accepted_at accepted b = slice_index_or accepted b None

-- the cut of all that the history has
abbrev pub whole_cut : Layout → List Item → Lengths
whole_cut p h = replicate p.stages (map (λ b. length (log_of b h)) (sources p))

-- what was accepted stands in what was seen, and no floor is above that
pub record IsCaller (p : Layout) (c : Caller) : Type 0 where
  pub width : length c.accepted ≡ base_count p
  pub own : (b k : ℕ) → accepted_at c.accepted b ≡ Some k → IsWrote c.seen c.session b k
  pub floors : EachShard p (λ v j. IsAtMost (floor_at c.floors v j) (whole_cut p c.seen))

-- the shard of a view that a snapshot is of
abbrev pub reader_of : Snapshot → Reader
reader_of s = record { view = s.view; shard = s.shard }

-- its cut is no less than the floor there
abbrev pub IsAbove : Floors → Snapshot → Type 0
IsAbove floors s = IsAtMost (floor_at floors s.view s.shard) s.lengths

-- it looks at each shard of each view, in order, and has seen no less there than its floor
pub record IsLooking (p : Layout) (c : Caller) : Type 0 where
  pub shards : map reader_of c.shown ≡ readers p
  pub floors : Each (IsAbove c.floors) c.shown

-- of each shard no less than before
abbrev pub AreLater : List Snapshot → List Snapshot → Type 0
AreLater olds news = Pointwise IsLater olds news

-- it is what was last looked at of shard j of view v
pub record IsSight (shown : List Snapshot) (v j : ℕ) (s : Snapshot) : Type 0 where
  pub place : ℕ
  pub there : slice_get shown place ≡ Some s
  pub of : reader_of s ≡ record { view = v; shard = j }

-- only what it has seen may differ
abbrev pub KeepsRest : Caller → Caller → Type 0
KeepsRest old new = new ≡ record old { seen = new.seen }

-- the caller of these parts
abbrev pub caller_with : ℕ → ℕ → ℕ → Bool → List Item → List (Option ℕ) → Floors → List Snapshot → Caller
caller_with session number answered stolen seen accepted floors shown = record {
  session = session;
  number = number;
  answered = answered;
  stolen = stolen;
  seen = seen;
  accepted = accepted;
  floors = floors;
  shown = shown;
}
