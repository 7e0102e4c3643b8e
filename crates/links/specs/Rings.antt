-- What a bell has rung for.
use Rattle.std.specs.Prelude.{ℕ, Bool, false, max, leb, Option, None, Some}

-- the latest call that was rung for, and whether an alarm was not yet told
pub record BellView : Type 0 where
  pub latest : Option ℕ
  pub alarmed : Bool

-- whether it rang for this call, or for a later one
abbrev pub rang_for : Option ℕ → ℕ → Bool
rang_for None call = false
rang_for (Some latest) call = leb call latest

-- the later of two
abbrev pub later : Option ℕ → ℕ → Option ℕ
later None call = Some call
later (Some latest) call = Some (max latest call)
