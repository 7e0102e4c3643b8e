-- Two rows cell by cell.
use Rattle.std.proofs.Common.{◌≡◌, ℕ, zero, suc, ◌+◌, ◌<◌, ◌≤◌, true, false, [], ◌∷◌, length, drop, slice_get, Option, Some, None, refl, arith, add-one}
use Rattle.std.proofs.Math.Seq.{drop-nil}
use Rattle.std.proofs.lemmas.Option.{slice_get_within}
use Rattle.std.specs.declared.cmp.Ordering.{Ordering}
use Rattle.std.specs.declared.cmp.Ordering.TheVariants.{Less, Equal, Greater}
use Rattle.std.specs.Ordering.{ordering_then, is_eq}
use Rattle.row.specs.Cells.{Cells, Datum, datum_cmp, row_cmp}
use Rattle.row.specs.Packed.{order_of}

-- by the cells in a column, and then by those behind it
pub cmp_at : (xs ys : Cells) (i : ℕ) (x y : Datum) → slice_get xs i ≡ Some x → slice_get ys i ≡ Some y → row_cmp (drop i xs) (drop i ys) ≡ ordering_then (datum_cmp x y) (row_cmp (drop (i + 1) xs) (drop (i + 1) ys))
cmp_at xs ys i x y p q = rw (add-one i) (at xs ys i p q)
  where
    at : (xs ys : Cells) (i : ℕ) → slice_get xs i ≡ Some x → slice_get ys i ≡ Some y → row_cmp (drop i xs) (drop i ys) ≡ ordering_then (datum_cmp x y) (row_cmp (drop (suc i) xs) (drop (suc i) ys))
    at [] ys i p q = absurd cc
    at (a ∷ xs) [] i p q = absurd cc
    at (a ∷ xs) (b ∷ ys) zero p q = cc
    at (a ∷ xs) (b ∷ ys) (suc i) p q = at xs ys i p q

-- they tell the order where they are not one
cmp_apart : (xs ys : Cells) (i : ℕ) (x y : Datum) (o : Ordering) → slice_get xs i ≡ Some x → slice_get ys i ≡ Some y → o ≡ datum_cmp x y → is_eq o ≡ false → row_cmp (drop i xs) (drop i ys) ≡ o
cmp_apart xs ys i x y o p q is apart = rw (cmp_at xs ys i x y p q, ← is) (first o apart (row_cmp (drop (i + 1) xs) (drop (i + 1) ys)))
  where
    first : (o : Ordering) → is_eq o ≡ false → (r : Ordering) → ordering_then o r ≡ o
    first Less e r = refl
    first Equal e r = absurd cc
    first Greater e r = refl

-- those behind them where they are
cmp_tied : (xs ys : Cells) (i : ℕ) (x y : Datum) (o : Ordering) → slice_get xs i ≡ Some x → slice_get ys i ≡ Some y → o ≡ datum_cmp x y → is_eq o ≡ true → row_cmp (drop i xs) (drop i ys) ≡ row_cmp (drop (i + 1) xs) (drop (i + 1) ys)
cmp_tied xs ys i x y o p q is tied = rw (cmp_at xs ys i x y p q, ← is) (next o tied (row_cmp (drop (i + 1) xs) (drop (i + 1) ys)))
  where
    next : (o : Ordering) → is_eq o ≡ true → (r : Ordering) → ordering_then o r ≡ r
    next Less e r = absurd cc
    next Equal e r = refl
    next Greater e r = absurd cc

-- the other has no such cell
cmp_longer : (xs ys : Cells) (i : ℕ) → i < length xs → slice_get ys i ≡ None → row_cmp (drop i xs) (drop i ys) ≡ Greater
cmp_longer [] ys i h q = absurd (omega arith)
cmp_longer (x ∷ xs) [] zero h q = refl
cmp_longer (x ∷ xs) [] (suc i) h q = rw (← drop-nil {A = Datum} i) (cmp_longer xs [] i (omega arith) refl)
cmp_longer (x ∷ xs) (y ∷ ys) zero h q = absurd cc
cmp_longer (x ∷ xs) (y ∷ ys) (suc i) h q = cmp_longer xs ys i (omega arith) q

-- the row ends, and the other does not
pub cmp_shorter : (xs ys : Cells) (i : ℕ) → length xs ≤ i → i < length ys → row_cmp (drop i xs) (drop i ys) ≡ Less
cmp_shorter xs [] i h q = absurd (omega arith)
cmp_shorter [] (y ∷ ys) zero h q = refl
cmp_shorter [] (y ∷ ys) (suc i) h q = rw (← drop-nil {A = Datum} i) (cmp_shorter [] ys i (omega arith) (omega arith))
cmp_shorter (x ∷ xs) (y ∷ ys) zero h q = absurd (omega arith)
cmp_shorter (x ∷ xs) (y ∷ ys) (suc i) h q = cmp_shorter xs ys i (omega arith) (omega arith)

-- both end
pub cmp_ended : (xs ys : Cells) (i : ℕ) → length xs ≤ i → length ys ≤ i → row_cmp (drop i xs) (drop i ys) ≡ Equal
cmp_ended [] [] zero h q = refl
cmp_ended [] [] (suc i) h q = refl
cmp_ended [] (y ∷ ys) zero h q = absurd (omega arith)
cmp_ended [] (y ∷ ys) (suc i) h q = rw (← drop-nil {A = Datum} i) (cmp_ended [] ys i (omega arith) (omega arith))
cmp_ended (x ∷ xs) ys zero h q = absurd (omega arith)
cmp_ended (x ∷ xs) [] (suc i) h q = rw (← drop-nil {A = Datum} i) (cmp_ended xs [] i (omega arith) (omega arith))
cmp_ended (x ∷ xs) (y ∷ ys) (suc i) h q = cmp_ended xs ys i (omega arith) (omega arith)

-- ---- by the order that is told of two cells
told_of : (xs ys : Cells) (i : ℕ) (o : Ordering) → Some o ≡ order_of (slice_get xs i) (slice_get ys i) → (A : Type 0) → ((x y : Datum) → slice_get xs i ≡ Some x → slice_get ys i ≡ Some y → o ≡ datum_cmp x y → A) → A
told_of xs ys i o told A k = cells (slice_get xs i) (slice_get ys i) refl refl told
  where
    cells : (p q : Option Datum) → slice_get xs i ≡ p → slice_get ys i ≡ q → Some o ≡ order_of p q → A
    cells (Some x) (Some y) first second is = k x y first second cc
    cells (Some x) None first second is = absurd cc
    cells None q first second is = absurd cc

-- it tells the order where it is not one
pub cmp_told : (xs ys : Cells) (i : ℕ) (o : Ordering) → Some o ≡ order_of (slice_get xs i) (slice_get ys i) → is_eq o ≡ false → row_cmp (drop i xs) (drop i ys) ≡ o
cmp_told xs ys i o told apart = told_of xs ys i o told (row_cmp (drop i xs) (drop i ys) ≡ o) (λ x y first second is. cmp_apart xs ys i x y o first second is apart)

-- the cells behind them where they are
pub cmp_told_tied : (xs ys : Cells) (i : ℕ) (o : Ordering) → Some o ≡ order_of (slice_get xs i) (slice_get ys i) → is_eq o ≡ true → row_cmp (drop i xs) (drop i ys) ≡ row_cmp (drop (i + 1) xs) (drop (i + 1) ys)
cmp_told_tied xs ys i o told tied = told_of xs ys i o told (row_cmp (drop i xs) (drop i ys) ≡ row_cmp (drop (i + 1) xs) (drop (i + 1) ys)) (λ x y first second is. cmp_tied xs ys i x y o first second is tied)

-- both have the cell
pub told_within : (xs ys : Cells) (i : ℕ) (o : Ordering) → Some o ≡ order_of (slice_get xs i) (slice_get ys i) → i < length ys
told_within xs ys i o told = told_of xs ys i o told (i < length ys) (λ x y first second is. slice_get_within ys i y second)

-- none is told where the other has no such cell
pub cmp_untold : (xs ys : Cells) (i : ℕ) → i < length xs → None ≡ order_of (slice_get xs i) (slice_get ys i) → row_cmp (drop i xs) (drop i ys) ≡ Greater
cmp_untold [] ys i h q = absurd (omega arith)
cmp_untold (x ∷ xs) [] i h q = cmp_longer (x ∷ xs) [] i h refl
cmp_untold (x ∷ xs) (y ∷ ys) zero h q = absurd cc
cmp_untold (x ∷ xs) (y ∷ ys) (suc i) h q = cmp_untold xs ys i (omega arith) q
