-- When what is kept at a key is true of the parts that the sources have, one part for each source.
use Rattle.std.specs.Prelude.{◌≡◌, ℕ, List, [], ◌∷◌, Option, Some, None, slice_set}
use Rattle.partial.specs.States.{State, Hole, Waiting, Filled}

-- a piece in hand is the part of its source
abbrev pub IsPieceOf : {E : Type 0} → Option E → E → Type 0
IsPieceOf None part = Unit {0}
IsPieceOf (Some piece) part = piece ≡ part

-- each piece in hand is the part of its source, with one place for each source
abbrev pub Matches : {E : Type 0} → List (Option E) → List E → Type 0
Matches [] [] = Unit {0}
Matches [] (part ∷ parts) = ⊥
Matches (piece ∷ pieces) [] = ⊥
Matches (piece ∷ pieces) (part ∷ parts) = IsPieceOf piece part × Matches pieces parts

-- each piece in hand is the part of its source, and a filled entry is the sum of the parts
abbrev pub IsTrueOf : {E : Type 0} → (List E → E) → List E → State E → Type 0
IsTrueOf total parts Hole = Unit {0}
IsTrueOf total parts (Waiting pieces) = Matches pieces parts
IsTrueOf total parts (Filled entry) = entry ≡ total parts

-- the parts, with another one at the source that is named, if one is
abbrev pub with_part : {E : Type 0} → Option ℕ → E → List E → List E
with_part None part parts = parts
with_part (Some source) part parts = slice_set parts source part
