-- Tests of all numbers of a range.
use Rattle.std.proofs.Common.{◌≡◌, ℕ, zero, suc, ◌+◌, ◌<◌, ◌&&◌, Bool, true, false, List, [], ◌∷◌, map, flat_map, refl, ap, sym, ◌∙◌, arith}
use Rattle.std.specs.List.{list_all, range_with_len}
use Rattle.std.proofs.lemmas.List.Folds.{list_all-append, list_all-map}
use Rattle.model.proofs.PlaceLaws.{range_more}
use Rattle.plan.proofs.Both.{and_both}

and_false : (a b : Bool) → b ≡ false → (a && b) ≡ false
and_false true b e = e
and_false false b e = refl

-- one more passes
pub all_more : (test : ℕ → Bool) (n : ℕ) → list_all test (range_with_len 0 n) ≡ true → test n ≡ true → list_all test (range_with_len 0 (n + 1)) ≡ true
all_more test n before here =
    ap (list_all test) (sym (range_more 0 n n (omega arith)))
    ∙ list_all-append test (range_with_len 0 n) (n ∷ [])
    ∙ and_both (list_all test (range_with_len 0 n)) (test n && true) before (and_both (test n) true here refl)

-- one fails
fails_from : (test : ℕ → Bool) (a n j : ℕ) → j < n → test (a + j) ≡ false → list_all test (range_with_len a n) ≡ false
fails_from test a zero j lt e = absurd (omega (arith, lt))
fails_from test a (suc n) zero lt e =
    let z : a + 0 ≡ a = omega arith in
    let f : test a ≡ false = ap test (sym z) ∙ e in
    rw f refl
fails_from test a (suc n) (suc j) lt e =
    let z : a + 1 + j ≡ a + suc j = omega arith in
    and_false (test a) _ (fails_from test (a + 1) n j (omega (arith, lt)) (ap test z ∙ e))

pub one_fails : (test : ℕ → Bool) (n j : ℕ) → j < n → test j ≡ false → list_all test (range_with_len 0 n) ≡ false
one_fails test n j lt e = fails_from test 0 n j lt (let z : 0 + j ≡ j = omega arith in ap test z ∙ e)

lines_of : (f : ℕ → ℕ → Bool) (m : ℕ) (xs : List ℕ) → list_all (λ b. b) (flat_map (λ x. map (f x) (range_with_len 0 m)) xs) ≡ list_all (λ x. list_all (λ y. f x y) (range_with_len 0 m)) xs
lines_of f m [] = refl
lines_of f m (x ∷ xs) =
    list_all-append (λ b. b) (map (f x) (range_with_len 0 m)) (flat_map (λ x. map (f x) (range_with_len 0 m)) xs)
    ∙ (ap (λ b. b && list_all (λ b. b) (flat_map (λ x. map (f x) (range_with_len 0 m)) xs)) (list_all-map (λ b. b) (f x) (range_with_len 0 m))
    ∙ ap (λ b. list_all (λ y. f x y) (range_with_len 0 m) && b) (lines_of f m xs))

-- a test of all pairs is one line by line
pub by_lines : (f : ℕ → ℕ → Bool) (n m : ℕ) → list_all (λ b. b) (flat_map (λ x. map (f x) (range_with_len 0 m)) (range_with_len 0 n)) ≡ list_all (λ x. list_all (λ y. f x y) (range_with_len 0 m)) (range_with_len 0 n)
by_lines f n m = lines_of f m (range_with_len 0 n)
