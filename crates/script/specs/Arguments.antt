-- Which words are a form of the program.
use Rattle.std.specs.Prelude.{ℕ, Bool, false, ◌||◌, List, [], ◌∷◌, codes}
use Rattle.std.specs.Str.{bytes_eq}

-- `run RECIPE SCRIPT`
abbrev pub is_run : List (List ℕ) → Bool
is_run [] = false
is_run (a ∷ []) = false
is_run (a ∷ b ∷ []) = false
is_run (a ∷ b ∷ c ∷ []) = bytes_eq a (codes "run")
is_run (a ∷ b ∷ c ∷ d ∷ more) = false

-- `race RECIPE SCRIPT..`, with at least one script
abbrev pub is_race : List (List ℕ) → Bool
is_race [] = false
is_race (a ∷ []) = false
is_race (a ∷ b ∷ []) = false
is_race (a ∷ b ∷ c ∷ more) = bytes_eq a (codes "race")

-- `replay RECIPE SCHEDULE`
abbrev pub is_replay : List (List ℕ) → Bool
is_replay [] = false
is_replay (a ∷ []) = false
is_replay (a ∷ b ∷ []) = false
is_replay (a ∷ b ∷ c ∷ []) = bytes_eq a (codes "replay")
is_replay (a ∷ b ∷ c ∷ d ∷ more) = false

-- one of the forms
abbrev pub is_form : List (List ℕ) → Bool
is_form words = is_run words || is_race words || is_replay words
