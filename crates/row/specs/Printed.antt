-- Printed values, and the two forms of a word.
use Rattle.std.specs.Prelude.{ℕ, Bool, false, ◌==◌, ◌||◌, not, List, [], ◌∷◌, ◌++◌, map, if◌then◌else◌}
use Rattle.std.specs.List.{list_all}
use Rattle.std.specs.Fmt.{signed_decimal}
use Rattle.row.specs.Cells.{Datum, int, text, Cells}

-- a quotation mark or a backslash
abbrev pub is_escaped : ℕ → Bool
is_escaped b = b == 34 || b == 92

-- the bytes, with a backslash before each of those
abbrev pub escaped : List ℕ → List ℕ
escaped [] = []
escaped (b ∷ bs) = if is_escaped b then 92 ∷ b ∷ escaped bs else b ∷ escaped bs

-- between quotation marks
abbrev pub quoted : List ℕ → List ℕ
quoted bytes = 34 ∷ escaped bytes ++ 34 ∷ []

-- not empty, with no space, quotation mark or backslash
abbrev pub is_bare : List ℕ → Bool
is_bare [] = false
is_bare (b ∷ bs) = list_all (λ c. not (c == 32 || is_escaped c)) (b ∷ bs)

-- a number by its decimal digits, a text bare where it may stand so, else quoted
abbrev pub printed : Datum → List ℕ
printed (int n) = signed_decimal n
printed (text bytes) = if is_bare bytes then bytes else quoted bytes

-- the words with the byte between each two
abbrev pub joined : ℕ → List (List ℕ) → List ℕ
joined byte [] = []
joined byte (word ∷ []) = word
joined byte (word ∷ next ∷ words) = word ++ byte ∷ joined byte (next ∷ words)

-- a row by its values, with one space between each two
abbrev pub printed_row : Cells → List ℕ
printed_row row = joined 32 (map printed row)
