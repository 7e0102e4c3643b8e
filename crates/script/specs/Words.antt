-- The words of a line.
use Rattle.std.specs.Prelude.{◌≡◌, ℕ, true, List, [], ◌∷◌, ◌++◌, ◌⊎◌, replicate}
use Rattle.std.specs.List.{list_all}
use Rattle.row.specs.Printed.{quoted, is_bare}
use Rattle.plan.specs.Kinds.{is_printed}

-- nothing, or a space first
abbrev pub IsCut : List ℕ → Type 0
IsCut [] = Unit {0}
IsCut (b ∷ bs) = b ≡ 32

-- a form of a word, each byte of which is from 0x20 to 0x7E: a bare word as it is, or any between quotation marks
abbrev pub IsForm : List ℕ → List ℕ → Type 0
IsForm form word = (list_all is_printed word ≡ true) × (((is_bare word ≡ true) × (form ≡ word)) ⊎ (form ≡ quoted word))

-- the words of the line: spaces, a form of the first word, and then a rest, cut off there, with the other words
abbrev pub IsLine : List ℕ → List (List ℕ) → Type 0
IsLine line [] = (n : ℕ) × (line ≡ replicate n 32)
IsLine line (word ∷ words) = (n : ℕ) × (form : List ℕ) × (rest : List ℕ) × (line ≡ replicate n 32 ++ (form ++ rest)) × IsForm form word × IsCut rest × IsLine rest words
