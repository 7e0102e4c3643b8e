-- A word as a cell of a column.
use Rattle.std.specs.Prelude.{◌≡◌, ℕ, true, ℤ, List}
use Rattle.std.specs.Fmt.{signed_decimal}
use Rattle.row.specs.Cells.{Datum, int, text}
use Rattle.row.specs.Numbers.{is_small}
use Rattle.plan.specs.declared.kinds.Kind.{Kind}
use Rattle.plan.specs.declared.kinds.Kind.TheVariants as kind

-- the word is the printed form of the number, which has 64 bits
abbrev pub Prints : List ℕ → ℤ → Type 0
Prints word n = (is_small n ≡ true) × (signed_decimal n ≡ word)

-- in a column of numbers a word that prints one is that number; any other is its text
abbrev pub IsRead : Kind → List ℕ → Datum → Type 0
IsRead kind.Int word (int n) = Prints word n
IsRead kind.Int word (text bytes) = (bytes ≡ word) × ((n : ℤ) → ¬ Prints word n)
IsRead kind.Text word (int n) = ⊥
IsRead kind.Text word (text bytes) = bytes ≡ word
