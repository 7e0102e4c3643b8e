-- Numbers in order, one more at the end.
use Rattle.std.proofs.Common.{◌≡◌, ℕ, zero, suc, ◌+◌, List, [], ◌∷◌, ◌++◌, map, flat_map, ap, sym, ◌∙◌, arith, append_assoc, add-one, add-zero, zero-add}
use Rattle.std.specs.List.{range_with_len}
use Rattle.std.proofs.lemmas.List.{append-nil}
use Rattle.std.proofs.lemmas.List.FromFn.{map-range_with_len_more}
use Rattle.std.proofs.lemmas.Grind.{flat_map-append}

range_suc : (a n : ℕ) → range_with_len a (suc n) ≡ range_with_len a n ++ (a + n) ∷ []
range_suc a zero = ap (λ k. k ∷ []) (sym (add-zero a))
range_suc a (suc n) =
    let moved : a + 1 + n ≡ a + suc n = omega arith in
    ap (λ t. a ∷ t) (range_suc (a + 1) n ∙ ap (λ k. range_with_len (a + 1) n ++ k ∷ []) moved)

pub flat_map_more : {X : Type 0} (f : ℕ → List X) (n : ℕ) → flat_map f (range_with_len 0 (n + 1)) ≡ flat_map f (range_with_len 0 n) ++ f n
flat_map_more f n =
    ap (λ k. flat_map f (range_with_len 0 k)) (add-one n)
    ∙ ap (flat_map f) (range_suc 0 n)
    ∙ flat_map-append f (range_with_len 0 n) ((0 + n) ∷ [])
    ∙ ap (λ t. flat_map f (range_with_len 0 n) ++ t) (append-nil (f (0 + n)) ∙ ap f (zero-add n))

-- what is put behind the others
pub put_more : {X : Type 0} (f : ℕ → X) (old now then : List X) (n : ℕ) → now ≡ old ++ map f (range_with_len 0 n) → then ≡ now ++ f n ∷ [] → then ≡ old ++ map f (range_with_len 0 (n + 1))
put_more f old now then n before put =
    put ∙ ap (λ t. t ++ f n ∷ []) before ∙ append_assoc old (map f (range_with_len 0 n)) (f n ∷ []) ∙ ap (λ t. old ++ t) (sym (map-range_with_len_more f 0 n n (zero-add n)))
