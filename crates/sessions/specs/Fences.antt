-- What a fence does to its session.
use Rattle.std.specs.Prelude.{◌≡◌, ◌⊎◌, ℕ, ◌+◌, ◌<◌, ◌≤◌, List, [], ◌∷◌, flat_map, length, Option, Some, None}
use mathlib.Core.List.{IsPrefix}
use Rattle.row.specs.Bags.{Each}
use Rattle.row.specs.declared.refused.Refused.{Refused}
use Rattle.row.specs.declared.refused.Refused.TheVariants.{NoMemory, Stopped, Behind}
use Rattle.plan.specs.Layouts.{Layout}
use Rattle.model.specs.Places.{sources, source_at}
use Rattle.model.specs.Histories.{Item, fence, Place, len_at, floor_at, log_of}
use Rattle.model.specs.Legal.{EachShard}
use Rattle.book.specs.Pages.{IsAdded}
use Rattle.book.specs.Sessions.{own_word, own_items}
use Rattle.sessions.specs.Callers.{Caller, accepted_at, AreLater}
use Rattle.sessions.specs.Reads.{IsUndone}

-- the place of an index, where there is one
abbrev pub place_of : ℕ → Option ℕ → List Place
place_of b None = []
place_of b (Some k) = record { base = b; index = k } ∷ []

-- the greatest accepted index of each source
abbrev pub own_places : Layout → List (Option ℕ) → List Place
own_places p accepted = flat_map (λ b. place_of b (accepted_at accepted b)) (sources p)

-- each floor has, for each stage shard, every entry of a source that the history has
abbrev pub IsFloored : Layout → List Item → Caller → Type 0
IsFloored p h c = EachShard p (λ v j. (s i : ℕ) → s < p.stages → i < length (sources p) → length (log_of (source_at p i) h) ≤ len_at (floor_at c.floors v j) s i)

-- each floor is what is shown there
abbrev pub IsFlooredByShown : Caller → Type 0
IsFlooredByShown c = Each (λ s. floor_at c.floors s.view s.shard ≡ s.lengths) c.shown

-- a fence item stands at the end of what was then seen, the only one of its session beyond those that it had answered, with the greatest accepted index of each source, and each floor is what was then shown there, which has all that its session had seen
pub record IsFenced (p : Layout) (old new : Caller) : Type 0 where
  pub before : List Item
  pub grown : IsPrefix old.seen before
  pub once : own_items p old.session before ≡ old.answered
  pub item : IsAdded p (own_word p old.session) before (fence old.session (own_places p old.accepted) new.floors) new.seen
  pub floored : IsFloored p old.seen new
  pub shown : IsFlooredByShown new
  pub after : new ≡ record old { number = old.number + 1; answered = old.answered + 1; seen = new.seen; floors = new.floors; shown = new.shown }
  pub looked : AreLater old.shown new.shown

-- a fence is refused so
abbrev pub IsUnfenced : Layout → Caller → Caller → Refused → Type 0
IsUnfenced p old new r = IsUndone p (λ e. (e ≡ NoMemory) ⊎ (e ≡ Stopped) ⊎ (e ≡ Behind)) old new r
