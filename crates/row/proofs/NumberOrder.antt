-- Whole numbers in order.
use Rattle.std.proofs.Common.{◌≡◌, ℕ, List, [], ◌∷◌, map, refl, ap, rules, nat_cmp}
use Rattle.std.specs.Ordering.{ordering_then}
use Rattle.std.specs.Cmp.Lexicographic.{slice_cmp}
use Rattle.row.specs.Cells.{datum_cmp, row_cmp}
use Rattle.row.specs.Packed.{whole}

pub whole_cmp : (a b : ℕ) → datum_cmp (whole a) (whole b) ≡ nat_cmp a b
whole_cmp a b = search rules

pub wholes_cmp : (xs ys : List ℕ) → row_cmp (map whole xs) (map whole ys) ≡ slice_cmp nat_cmp xs ys
wholes_cmp [] [] = refl
wholes_cmp [] (y ∷ ys) = refl
wholes_cmp (x ∷ xs) [] = refl
wholes_cmp (x ∷ xs) (y ∷ ys) = rw (whole_cmp x y) (ap (ordering_then (nat_cmp x y)) (wholes_cmp xs ys))
