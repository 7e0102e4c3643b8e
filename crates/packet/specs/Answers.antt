-- What holds of an answer to a write.
use Rattle.std.specs.Prelude.{◌≡◌, ◌⊎◌, ◌<◌, ℕ, List, slice_get, Option, Some, None}
use Rattle.std.specs.Option.{ForSome}
use Rattle.row.specs.Bags.{Each}
use Rattle.row.specs.declared.refused.Refused.{Refused}
use Rattle.row.specs.declared.refused.Refused.TheVariants.{NoMemory, Stopped}
use Rattle.model.specs.Logs.{Change}
use Rattle.model.specs.Places.{layout_of}
use Rattle.model.specs.Histories.{Author}
use Rattle.model.specs.Legal.{limit}
use Rattle.model.specs.Refusals.{refusal}
use Rattle.model.specs.Fronts.{LogView}

-- the answer to a write: its session, number and entry, the index or the refusal, and the front that shows it
pub record AnswerView (F : Type 0) : Type 0 where
  pub session : ℕ
  pub number : ℕ
  pub entry : Change
  pub refused : Option Refused
  pub index : ℕ
  pub front : Option F

-- the answer of these parts
abbrev pub answer_with : {F : Type 0} → ℕ → ℕ → Change → Option Refused → ℕ → Option F → AnswerView F
answer_with session number entry refused index front =
    record { session = session; number = number; entry = entry; refused = refused; index = index; front = front }

-- the entry stands in the front's log at the index, under its session and number
pub record IsAccepted {F : Type 0} (log : F → LogView) (authors : F → List Author) (a : AnswerView F) (f : F) : Type 0 where
  pub entry : slice_get (log f).entries a.index ≡ Some a.entry
  pub author : slice_get (authors f) a.index ≡ Some (record { session = a.session; number = a.number })

-- the front has all of the log that was seen, the log refuses the entry so, and has no item of the call
pub record IsDecided {F : Type 0} (log : F → LogView) (authors : F → List Author) (is_all : F → Type 0) (a : AnswerView F) (r : Refused) (f : F) : Type 0 where
  pub shown : a.front ≡ Some f
  pub all : is_all f
  pub why : refusal (layout_of (log f).plan (log f).base).key limit (log f).entries a.entry ≡ Some r
  pub absent : Each (λ (x : Author). x.session ≡ a.session → x.number < a.number) (authors f)

-- accepted, as its front shows where it has one; or refused by no log; or refused by the log, as its front shows
abbrev pub IsVerdict : {F : Type 0} → (F → LogView) → (F → List Author) → (F → Type 0) → AnswerView F → Option Refused → Type 0
IsVerdict {F = F} log authors is_all a None = ForSome a.front (IsAccepted log authors a)
IsVerdict {F = F} log authors is_all a (Some r) = (r ≡ NoMemory) ⊎ (r ≡ Stopped) ⊎ (f : F) × IsDecided log authors is_all a r f

abbrev pub IsAnswer : {F : Type 0} → (F → LogView) → (F → List Author) → (F → Type 0) → AnswerView F → Type 0
IsAnswer log authors is_all a = IsVerdict log authors is_all a a.refused
