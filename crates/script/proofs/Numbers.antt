-- A word that prints a number is parsed as that number.
use Rattle.std.proofs.Common.{◌≡◌, ℕ, ◌<◌, ◌^◌, true, List, ℤ, Result, Ok, ap, sym, ◌∙◌, arith, FitsSigned, w64}
use Rattle.std.specs.Int.Signed.{mag}
use Rattle.std.specs.Str.Parse.{ParsesSigned}
use Rattle.std.proofs.lemmas.Fmt.{parse-signed_decimal, signed_decimal_injective}
use Rattle.std.proofs.lemmas.Int.{ints}
use Rattle.row.specs.Numbers.{is_small}
use Rattle.script.specs.Values.{Prints, IsRead}
use Rattle.row.specs.Cells.{Datum, int, text}
use Rattle.plan.specs.declared.kinds.Kind.{Kind}
use Rattle.plan.specs.declared.kinds.Kind.TheVariants as kind

pub small_fits : (n : ℤ) → is_small n ≡ true → FitsSigned w64 n
small_fits n h = grind (arith, ints)

small_mag : (n : ℤ) → is_small n ≡ true → mag n < 2 ^ 63
small_mag n h = grind (arith, ints)

pub parsed : {E : Type 0} (word : List ℕ) (n : ℤ) (r : Result ℤ E) → Prints word n → ParsesSigned w64 10 word r → r ≡ Ok n
parsed word n r p h = parse-signed_decimal w64 n word r (small_fits n p.0) (small_mag n p.0) (sym p.1) h

-- a word is read in one way
pub read_once : (k : Kind) (word : List ℕ) (a b : Datum) → IsRead k word a → IsRead k word b → a ≡ b
read_once kind.Int word (int m) (int n) x y = ap int (signed_decimal_injective m n (small_mag m x.0) (small_mag n y.0) (x.1 ∙ sym y.1))
read_once kind.Int word (int m) (text t) x y = absurd (y.1 m x)
read_once kind.Int word (text s) (int n) x y = absurd (x.1 n y)
read_once kind.Int word (text s) (text t) x y = ap text (x.0 ∙ sym y.0)
read_once kind.Text word (int m) b x y = absurd x
read_once kind.Text word (text s) (int n) x y = absurd y
read_once kind.Text word (text s) (text t) x y = ap text (x ∙ sym y)
