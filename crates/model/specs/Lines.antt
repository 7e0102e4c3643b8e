-- Where lengths lie.
use Rattle.std.specs.Prelude.{◌≡◌, ◌≤◌, ◌<◌, ℕ, List, [], ◌∷◌, length, map, take}
use Rattle.model.specs.declared.lengths.Lines.{Lines}
use Rattle.model.specs.declared.lengths.Lines.TheVariants as place

-- the first lines of two, each the first of its numbers
abbrev pub first_lines : ℕ → ℕ → ℕ → List ℕ → List ℕ → List (List ℕ)
first_lines stages first second firsts seconds = take stages (take first firsts ∷ take second seconds ∷ [])

-- so many lines and numbers are there, and none past the lines
pub record IsHere (stages first second : ℕ) : Type 0 where
  pub lines : stages ≤ 2
  pub of_first : first ≤ 4
  pub of_second : second ≤ 4
  pub no_first : stages < 1 → first ≡ 0
  pub no_second : stages < 2 → second ≡ 0

-- the lines in order
abbrev pub lines_in : Lines → List (List ℕ)
lines_in (place.Here stages first second firsts seconds) = first_lines stages first second firsts seconds
lines_in (place.Apart lines) = map (λ line. line.items) lines.items

-- what is said to be there is there
abbrev pub IsHeld : Lines → Type 0
IsHeld (place.Here stages first second firsts seconds) = (length firsts ≡ 4) × ((length seconds ≡ 4) × IsHere stages first second)
IsHeld (place.Apart lines) = Unit {0}
