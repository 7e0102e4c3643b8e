-- What the readers and the writer of a shown copy know of it.
use Rattle.std.specs.Prelude.{ℕ, ◌≡◌, List, [], Option, Some, None, IfSome, fold}
use mathlib.Core.Option.{some}
use lib.ListN.{get_elem?}
use Rattle.plan.specs.Layouts.{Layout}
use Rattle.shown.specs.Boards.{State}
use Rattle.shown.specs.Snapshots.{Snapshot, IsLater, IsTrue, applied}
use Rattle.shown.specs.declared.delta.Delta.{Delta}

-- what is shown is true, and no less than what each has seen
pub record Keeps (p : Layout) (x : Snapshot) (sights : List (Option Snapshot)) : Type 0 where
  pub truth : IsTrue p x
  pub later : (seat : ℕ) (v : Option Snapshot) → get_elem? sights seat ≡ some v → IfSome v (λ s. IsLater s x)

-- what is shown afterwards was seen, is true, and is no less than what was seen before
pub record Sees (p : Layout) (v : Option Snapshot) (y : Snapshot) (w : Option Snapshot) : Type 0 where
  pub truth : IsTrue p y
  pub later : IfSome v (λ s. IsLater s y)
  pub seen : w ≡ Some y

-- what was seen last
abbrev pub seen_or : Snapshot → Option Snapshot → Snapshot
seen_or d None = d
seen_or d (Some s) = s

-- what a reader that has seen nothing is taken to have seen
abbrev pub nothing : Snapshot
nothing = record { view = 0; shard = 0; lengths = []; cut = []; rows = []; asked = 0 }

-- what the reader that is there has seen
abbrev pub seen_by : Option (Option Snapshot) → Option Snapshot
seen_by None = None
seen_by (Some s) = s

-- a snapshot of this shard of this view was seen
abbrev pub IsOf : ℕ → ℕ → Option Snapshot → Type 0
IsOf view shard None = ⊥
IsOf view shard (Some s) = (s.view ≡ view) × (s.shard ≡ shard)

-- a reader of this shard has looked: what it saw is of the shard, and no less than what it had seen
pub record HasLooked (view shard : ℕ) (before after : Option Snapshot) : Type 0 where
  pub of : IsOf view shard after
  pub later : IsLater (seen_or nothing before) (seen_or nothing after)

-- what is shown once all that is pending is published
abbrev pub ahead : {J V : Type 0} → State Snapshot (Delta J) V → Snapshot
ahead s = fold applied s.shown s.pending
