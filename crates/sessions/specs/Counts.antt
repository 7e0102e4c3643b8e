-- How many requests the shards of a view had sent.
use Rattle.std.specs.Prelude.{◌≡◌, ℕ, ◌+◌, ◌==◌, Bool, cond, min, List, [], ◌∷◌, Option, Some, slice_get, slice_set}
use Rattle.row.specs.declared.refused.Refused.{Refused}
use Rattle.plan.specs.Layouts.{Layout, view_named}
use Rattle.model.specs.Refusals.{view_refusal}
use Rattle.protocol.specs.Bases.{last_number}
use Rattle.shown.specs.Snapshots.{Snapshot, IsLater}
use Rattle.sessions.specs.Callers.{Caller}
use Rattle.sessions.specs.Inserts.{first_of, stolen_refusal}

-- what a call that names a view alone is refused with for what it asks
abbrev pub named_refusal : Layout → Caller → List ℕ → Option Refused
named_refusal p c name = first_of (stolen_refusal c) (view_refusal (view_named p name))

-- the sum over the snapshots of view v
abbrev pub asked_of : ℕ → List Snapshot → ℕ
asked_of v [] = 0
asked_of v (s ∷ ss) = cond (s.view == v) s.asked 0 + asked_of v ss

-- the sum over the shards of the view that was named, at most the greatest number
pub record IsCount (p : Layout) (name : List ℕ) (shown : List Snapshot) (n : ℕ) : Type 0 where
  pub view : ℕ
  pub named : view_named p name ≡ Some view
  pub sum : n ≡ min (asked_of view shown) last_number

-- the snapshot at a place became one over no smaller cut, and tells this count where it is asked for, else 0
pub record IsAskedAt (old new : List Snapshot) (n : ℕ) (own : Bool) (k : ℕ) : Type 0 where
  pub was : Snapshot
  pub is : Snapshot
  pub there : slice_get old n ≡ Some was
  pub later : IsLater was is
  pub set : new ≡ slice_set old n is
  pub asked : k ≡ cond own is.asked 0
