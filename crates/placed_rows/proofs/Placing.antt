-- A row whose values lie in it, by its values.
use Rattle.std.proofs.Common.{◌≡◌, ℕ, zero, suc, ◌+◌, ◌<◌, ◌≤◌, ◌-◌, List, [], ◌∷◌, length, slice_get, Some, refl, sym, arith, rules}
use Rattle.row.specs.Cells.{Datum}
use Rattle.row.specs.Packed.{whole, packed}
use Rattle.row.proofs.Packing.{of_one, of_two, of_three}

of_four : (row : List Datum) (x y z w : Datum) → length row ≡ 4 → slice_get row 0 ≡ Some x → slice_get row 1 ≡ Some y → slice_get row 2 ≡ Some z → slice_get row 3 ≡ Some w → row ≡ x ∷ y ∷ z ∷ w ∷ []
of_four [] x y z w h first second third fourth = absurd (omega arith)
of_four (v ∷ row) x y z w h first second third fourth = let rest = of_three row y z w (omega arith) second third fourth in search rules

-- number `nth` of the row without its value in column `at` is n, where it has so many
abbrev pub IsBeside : List Datum → ℕ → ℕ → ℕ → Type 0
IsBeside row at nth n = (nth < at → nth < length row → slice_get row nth ≡ Some (whole n)) × (at ≤ nth → nth + 1 < length row → slice_get row (nth + 1) ≡ Some (whole n))

-- its value in a column and the three numbers beside it are the row
pub placed_is : (row : List Datum) (at : ℕ) (v : Datum) (a b c : ℕ) → length row ≤ 4 → slice_get row at ≡ Some v → IsBeside row at 0 a → IsBeside row at 1 b → IsBeside row at 2 c
    → packed at (length row - 1 - at) (a ∷ b ∷ c ∷ []) v ≡ row
placed_is [] at v a b c small h p q r = absurd cc
placed_is (x ∷ []) zero v a b c small h p q r = sym (of_one (x ∷ []) v refl h)
placed_is (x ∷ []) (suc at) v a b c small h p q r = absurd cc
placed_is (x ∷ y ∷ []) zero v a b c small h p q r = sym (of_two (x ∷ y ∷ []) v (whole a) refl h (p.1 (omega arith) (omega arith)))
placed_is (x ∷ y ∷ []) (suc zero) v a b c small h p q r = sym (of_two (x ∷ y ∷ []) (whole a) v refl (p.0 (omega arith) (omega arith)) h)
placed_is (x ∷ y ∷ []) (suc (suc at)) v a b c small h p q r = absurd cc
placed_is (x ∷ y ∷ z ∷ []) zero v a b c small h p q r =
    sym (of_three (x ∷ y ∷ z ∷ []) v (whole a) (whole b) refl h (p.1 (omega arith) (omega arith)) (q.1 (omega arith) (omega arith)))
placed_is (x ∷ y ∷ z ∷ []) (suc zero) v a b c small h p q r =
    sym (of_three (x ∷ y ∷ z ∷ []) (whole a) v (whole b) refl (p.0 (omega arith) (omega arith)) h (q.1 (omega arith) (omega arith)))
placed_is (x ∷ y ∷ z ∷ []) (suc (suc zero)) v a b c small h p q r =
    sym (of_three (x ∷ y ∷ z ∷ []) (whole a) (whole b) v refl (p.0 (omega arith) (omega arith)) (q.0 (omega arith) (omega arith)) h)
placed_is (x ∷ y ∷ z ∷ []) (suc (suc (suc at))) v a b c small h p q r = absurd cc
placed_is (x ∷ y ∷ z ∷ w ∷ []) zero v a b c small h p q r =
    sym (of_four (x ∷ y ∷ z ∷ w ∷ []) v (whole a) (whole b) (whole c) refl h (p.1 (omega arith) (omega arith)) (q.1 (omega arith) (omega arith)) (r.1 (omega arith) (omega arith)))
placed_is (x ∷ y ∷ z ∷ w ∷ []) (suc zero) v a b c small h p q r =
    sym (of_four (x ∷ y ∷ z ∷ w ∷ []) (whole a) v (whole b) (whole c) refl (p.0 (omega arith) (omega arith)) h (q.1 (omega arith) (omega arith)) (r.1 (omega arith) (omega arith)))
placed_is (x ∷ y ∷ z ∷ w ∷ []) (suc (suc zero)) v a b c small h p q r =
    sym (of_four (x ∷ y ∷ z ∷ w ∷ []) (whole a) (whole b) v (whole c) refl (p.0 (omega arith) (omega arith)) (q.0 (omega arith) (omega arith)) h (r.1 (omega arith) (omega arith)))
placed_is (x ∷ y ∷ z ∷ w ∷ []) (suc (suc (suc zero))) v a b c small h p q r =
    sym (of_four (x ∷ y ∷ z ∷ w ∷ []) (whole a) (whole b) (whole c) v refl (p.0 (omega arith) (omega arith)) (q.0 (omega arith) (omega arith)) (r.0 (omega arith) (omega arith)) h)
placed_is (x ∷ y ∷ z ∷ w ∷ []) (suc (suc (suc (suc at)))) v a b c small h p q r = absurd cc
placed_is (x ∷ y ∷ z ∷ w ∷ u ∷ row) at v a b c small h p q r = absurd (omega arith)
