-- Beginnings of one list.
use Rattle.std.proofs.Common.{◌≡◌, ℕ, ◌≤◌, List, length, take, ap, sym, ◌∙◌, arith, ◌⊎◌, inl, inr}
use Rattle.std.proofs.lemmas.List.{take-append-le, take-take, length-take-le}
use mathlib.Core.List.{IsPrefix}
use Rattle.model.specs.Fronts.{Agree, Begins}

prefix_take : {X : Type 0} (n : ℕ) (xs ys : List X) → IsPrefix xs ys → n ≤ length xs → take n ys ≡ take n xs
prefix_take n xs ys (r, is) le = ap (take n) (sym is) ∙ take-append-le n xs r le

same_start : {X : Type 0} (n : ℕ) (xs ys : List X) → IsPrefix xs ys ⊎ IsPrefix ys xs → n ≤ length xs → n ≤ length ys → take n ys ≡ take n xs
same_start n xs ys (inl pre) here there = prefix_take n xs ys pre here
same_start n xs ys (inr pre) here there = sym (prefix_take n ys xs pre there)

-- the first entries of one list begin more of them
pub begins : {X : Type 0} (n m : ℕ) (xs ys : List X) → IsPrefix xs ys ⊎ IsPrefix ys xs → n ≤ length xs → m ≤ length ys → n ≤ m → Begins (take n xs) (take m ys)
begins n m xs ys pre here there le =
    ap (λ k. take k (take m ys)) (length-take-le n xs here) ∙ (take-take n m ys le ∙ same_start n xs ys pre here (omega (arith, le, there)))

turned : {X : Type 0} (xs ys : List X) → IsPrefix xs ys ⊎ IsPrefix ys xs → IsPrefix ys xs ⊎ IsPrefix xs ys
turned xs ys (inl x) = inr x
turned xs ys (inr x) = inl x

-- of two such the shorter begins the longer
pub agree : {X : Type 0} (n m : ℕ) (xs ys : List X) → IsPrefix xs ys ⊎ IsPrefix ys xs → n ≤ length xs → m ≤ length ys → Agree (take n xs) (take m ys)
agree n m xs ys pre here there =
    let a = length-take-le n xs here in
    let b = length-take-le m ys there in
    record {
      first = λ le. begins n m xs ys pre here there (omega (arith, a, b, le));
      second = λ le. begins m n ys xs (turned xs ys pre) there here (omega (arith, a, b, le));
    }
