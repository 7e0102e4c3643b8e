-- What a session knows from the reply to its write.
use Rattle.std.specs.Prelude.{◌≡◌, ◌⊎◌, ℕ, ◌<◌, ◌≤◌, List, Option, Some, None, IfSome, Result, Ok, Err}
use mathlib.Core.List.{IsPrefix}
use Rattle.row.specs.Bags.{Each}
use Rattle.row.specs.declared.refused.Refused.{Refused}
use Rattle.row.specs.declared.refused.Refused.TheVariants.{NoMemory, Stopped}
use Rattle.plan.specs.Layouts.{Layout}
use Rattle.model.specs.Logs.{Change}
use Rattle.model.specs.Places.{layout_of}
use Rattle.model.specs.Histories.{Item, Author, log_of, authors_of}
use Rattle.model.specs.Refusals.{refusal}
use Rattle.model.specs.Legal.{limit}
use Rattle.packet.specs.Answers.{AnswerView}
use Rattle.book.specs.Fronts.{FrontView}

-- the log in what was then seen decides so, and it has no item of the call
pub record IsDecidedIn (p : Layout) (seen : List Item) (s m b : ℕ) (e : Change) (r : Refused) (now : List Item) : Type 0 where
  pub grown : IsPrefix seen now
  pub why : refusal (layout_of p b).key limit (log_of b now) e ≡ Some r
  pub absent : Each (λ (a : Author). a.session ≡ s → a.number < m) (authors_of b now)

-- nothing was decided, and nothing more was seen; or the log decided
abbrev pub IsAnswer : Layout → List Item → ℕ → ℕ → ℕ → Change → Refused → List Item → Type 0
IsAnswer p seen s m b e r now = (((r ≡ NoMemory) ⊎ (r ≡ Stopped)) × (now ≡ seen)) ⊎ IsDecidedIn p seen s m b e r now

-- the answer is to this call
pub record IsTo {F : Type 0} (s m : ℕ) (e : Change) (a : AnswerView F) : Type 0 where
  pub session : a.session ≡ s
  pub number : a.number ≡ m
  pub entry : a.entry ≡ e

-- the answer is newer than so many entries of the base shard's log: an accepted entry stands behind them, the log that refused has them all, and a refusal by no log has no age
abbrev pub IsNewer : ℕ → ℕ → AnswerView FrontView → Option Refused → Type 0
IsNewer base len a None = IfSome a.front (λ f. (f.base ≡ base) × (len ≤ a.index))
IsNewer base len a (Some r) = (r ≡ NoMemory) ⊎ (r ≡ Stopped) ⊎ IfSome a.front (λ f. (f.base ≡ base) × (len ≤ f.len))

abbrev pub IsNews : ℕ → ℕ → AnswerView FrontView → Type 0
IsNews base len a = IsNewer base len a a.refused

-- what is told is what the answer says: its index just where it was accepted, else why it was refused
abbrev pub Says : {F : Type 0} → AnswerView F → Result ℕ Refused → Type 0
Says a (Ok k) = (a.refused ≡ None) × (a.index ≡ k)
Says a (Err e) = a.refused ≡ Some e
