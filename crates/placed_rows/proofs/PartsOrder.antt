-- How rows stand to each other whose values lie in them.
use Rattle.std.proofs.Common.{◌≡◌, List, ℕ, [], ◌∷◌, ◌++◌, length, map, true, false, refl, sym, ap, ◌∙◌, arith, Ordering, nat_cmp}
use Rattle.std.specs.declared.cmp.Ordering.TheVariants.{Less, Equal, Greater}
use Rattle.std.specs.Ordering.{ordering_then, is_eq}
use Rattle.std.specs.Cmp.Lexicographic.{slice_cmp}
use Rattle.row.specs.Cells.{text, datum_cmp, row_cmp}
use Rattle.row.specs.Packed.{whole}

then_then : (o p q : Ordering) → ordering_then o (ordering_then p q) ≡ ordering_then (ordering_then o p) q
then_then Less p q = refl
then_then Equal p q = refl
then_then Greater p q = refl

-- by the numbers before the text, by the text, and by the numbers behind it
parts_cmp : (xs ys s t us vs : List ℕ) → length xs ≡ length ys → row_cmp (map whole xs ++ text s ∷ map whole us) (map whole ys ++ text t ∷ map whole vs)
    ≡ ordering_then (row_cmp (map whole xs) (map whole ys)) (ordering_then (slice_cmp nat_cmp s t) (row_cmp (map whole us) (map whole vs)))
parts_cmp [] [] s t us vs h = refl
parts_cmp [] (y ∷ ys) s t us vs h = absurd (omega arith)
parts_cmp (x ∷ xs) [] s t us vs h = absurd (omega arith)
parts_cmp (x ∷ xs) (y ∷ ys) s t us vs h =
    ap (ordering_then (datum_cmp (whole x) (whole y))) (parts_cmp xs ys s t us vs (omega arith))
    ∙ then_then (datum_cmp (whole x) (whole y)) (row_cmp (map whole xs) (map whole ys)) (ordering_then (slice_cmp nat_cmp s t) (row_cmp (map whole us) (map whole vs)))

told : (o r : Ordering) → is_eq o ≡ false → ordering_then o r ≡ o
told Less r e = refl
told Equal r e = absurd cc
told Greater r e = refl

tied : (o r : Ordering) → is_eq o ≡ true → ordering_then o r ≡ r
tied Less r e = absurd cc
tied Equal r e = refl
tied Greater r e = absurd cc

-- the numbers before the text tell
pub by_before : (xs ys s t us vs : List ℕ) (o : Ordering) → length xs ≡ length ys → o ≡ row_cmp (map whole xs) (map whole ys) → is_eq o ≡ false
    → o ≡ row_cmp (map whole xs ++ text s ∷ map whole us) (map whole ys ++ text t ∷ map whole vs)
by_before xs ys s t us vs o h is apart =
    sym (rw (parts_cmp xs ys s t us vs h, ← is) (told o (ordering_then (slice_cmp nat_cmp s t) (row_cmp (map whole us) (map whole vs))) apart))

-- the text tells
pub by_text : (xs ys s t us vs : List ℕ) (o p : Ordering) → length xs ≡ length ys → o ≡ row_cmp (map whole xs) (map whole ys) → is_eq o ≡ true
    → p ≡ slice_cmp nat_cmp s t → is_eq p ≡ false → p ≡ row_cmp (map whole xs ++ text s ∷ map whole us) (map whole ys ++ text t ∷ map whole vs)
by_text xs ys s t us vs o p h is same are apart =
    sym (rw (parts_cmp xs ys s t us vs h, ← is, ← are) (tied o (ordering_then p (row_cmp (map whole us) (map whole vs))) same ∙ told p (row_cmp (map whole us) (map whole vs)) apart))

-- the numbers behind it tell
pub by_after : (xs ys s t us vs : List ℕ) (o p q : Ordering) → length xs ≡ length ys → o ≡ row_cmp (map whole xs) (map whole ys) → is_eq o ≡ true
    → p ≡ slice_cmp nat_cmp s t → is_eq p ≡ true → q ≡ row_cmp (map whole us) (map whole vs) → q ≡ row_cmp (map whole xs ++ text s ∷ map whole us) (map whole ys ++ text t ∷ map whole vs)
by_after xs ys s t us vs o p q h is same are alike last =
    sym (rw (parts_cmp xs ys s t us vs h, ← is, ← are, ← last) (tied o (ordering_then p q) same ∙ tied p q alike))
