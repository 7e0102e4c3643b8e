-- Packed values: how many, each by its column, and one more.
use Rattle.std.proofs.Common.{◌≡◌, ℕ, zero, suc, ◌+◌, ◌<◌, ◌≤◌, ◌-◌, List, [], ◌∷◌, ◌++◌, map, length, take, drop, get_or, slice_get, Some, None, refl, ap, sym, subst, ◌∙◌, arith, rules}
use Rattle.std.proofs.lemmas.List.{length-append, length-map, length-take-le, length-drop, get_or-drop}
use Rattle.std.proofs.lemmas.Option.{slice_get_past}
use Rattle.row.specs.Cells.{Datum, datum_of}
use Rattle.row.specs.Packed.{whole, packed, cells_in, Fits}
use Rattle.row.specs.declared.cells.Kept.{Kept}
use Rattle.row.specs.declared.cells.Kept.TheVariants.{Packed}
use Rattle.row.specs.declared.value.Value.{Value}

-- so many numbers
pub taken_length : (n : ℕ) (ns : List ℕ) → n ≤ length ns → length (map whole (take n ns)) ≡ n
taken_length n ns h = length-map (take n ns) whole ∙ length-take-le n ns h

pub packed_length : (before after : ℕ) (ns : List ℕ) (v : Datum) → before + after ≤ length ns → length (packed before after ns v) ≡ before + 1 + after
packed_length before after ns v h =
    rw (length-append (map whole (take before ns)) (v ∷ map whole (take after (drop before ns))), taken_length before ns (omega arith), taken_length after (drop before ns) (omega (arith, length-drop before ns))) (omega arith)

-- a number before the value
pub packed_before : (before after : ℕ) (ns : List ℕ) (v : Datum) (at : ℕ) (n : ℕ) → at < before → at < length ns → slice_get (packed before after ns v) at ≡ Some (whole (get_or ns at n))
packed_before before after ns v at n less within = front before ns at n less within (v ∷ map whole (take after (drop before ns)))
  where
    front : (before : ℕ) (ns : List ℕ) (at : ℕ) (n : ℕ) → at < before → at < length ns → (rest : List Datum) → slice_get (map whole (take before ns) ++ rest) at ≡ Some (whole (get_or ns at n))
    front before [] at n less within rest = absurd (omega arith)
    front zero (x ∷ ns) at n less within rest = absurd (omega arith)
    front (suc before) (x ∷ ns) zero n less within rest = refl
    front (suc before) (x ∷ ns) (suc at) n less within rest = front before ns at n (omega arith) (omega arith) rest

-- what stands behind the numbers before the value
behind : (before : ℕ) (ns : List ℕ) (k at : ℕ) → before ≤ length ns → k ≡ before + at → (rest : List Datum) → slice_get (map whole (take before ns) ++ rest) k ≡ slice_get rest at
behind zero [] k at h is rest = ap (slice_get rest) (omega arith)
behind zero (x ∷ ns) k at h is rest = ap (slice_get rest) (omega arith)
behind (suc before) [] k at h is rest = absurd (omega arith)
behind (suc before) (x ∷ ns) zero at h is rest = absurd (omega arith)
behind (suc before) (x ∷ ns) (suc k) at h is rest = behind before ns k at (omega arith) (omega arith) rest

-- the value
pub packed_at : (before after : ℕ) (ns : List ℕ) (v : Datum) (at : ℕ) → before ≤ length ns → at ≡ before → slice_get (packed before after ns v) at ≡ Some v
packed_at before after ns v at h is = behind before ns at zero h (omega arith) (v ∷ map whole (take after (drop before ns)))

pub taken : (n : ℕ) (ns : List ℕ) (at : ℕ) (d : ℕ) → at < n → at < length ns → slice_get (map whole (take n ns)) at ≡ Some (whole (get_or ns at d))
taken n [] at d less within = absurd (omega arith)
taken zero (x ∷ ns) at d less within = absurd (omega arith)
taken (suc n) (x ∷ ns) zero d less within = refl
taken (suc n) (x ∷ ns) (suc at) d less within = taken n ns at d (omega arith) (omega arith)

-- a number behind the value
pub packed_behind : (before after : ℕ) (ns : List ℕ) (v : Datum) (at : ℕ) (n : ℕ) → before + after ≤ length ns → before < at → at ≤ before + after → slice_get (packed before after ns v) at ≡ Some (whole (get_or ns (at - 1) n))
packed_behind before after ns v zero n h more within = absurd (omega arith)
packed_behind before after ns v (suc at) n h more within =
    let k : ℕ = at - before in
    let there = behind before ns (suc at) (suc k) (omega arith) (omega arith) (v ∷ map whole (take after (drop before ns))) in
    let number = taken after (drop before ns) k n (omega arith) (omega (arith, length-drop before ns)) in
    let place : before + k ≡ suc at - 1 = omega arith in
    there ∙ number ∙ ap (λ i. Some (whole i)) (get_or-drop before ns k n ∙ ap (λ i. get_or ns i n) place)

-- nothing past so many numbers
pub taken_past : (n : ℕ) (ns : List ℕ) (at : ℕ) → n ≤ length ns → n ≤ at → slice_get (map whole (take n ns)) at ≡ None
taken_past n ns at h past = slice_get_past (map whole (take n ns)) at (omega (arith, taken_length n ns h))

-- nothing past them
pub packed_past : (before after : ℕ) (ns : List ℕ) (v : Datum) (at : ℕ) → before + after ≤ length ns → before + after < at → slice_get (packed before after ns v) at ≡ None
packed_past before after ns v at h past = slice_get_past (packed before after ns v) at (omega (arith, packed_length before after ns v h))

-- ---- one value more
-- the kept value was a number, and another is kept behind all
pub packed_led : (before after : ℕ) (ns : List ℕ) (first : ℕ) (v : Datum) → before ≡ 0 → after ≤ 2 → length ns ≡ 3 → packed (after + 1) 0 (first ∷ get_or ns 0 0 ∷ get_or ns 1 0 ∷ []) v ≡ packed before after ns (whole first) ++ v ∷ []
packed_led (suc before) after ns first v none small three = absurd (omega arith)
packed_led zero after [] first v none small three = absurd (omega arith)
packed_led zero after (x ∷ []) first v none small three = absurd (omega arith)
packed_led zero after (x ∷ y ∷ []) first v none small three = absurd (omega arith)
packed_led zero after (x ∷ y ∷ z ∷ w ∷ ns) first v none small three = absurd (omega arith)
packed_led zero zero (x ∷ y ∷ z ∷ []) first v none small three = refl
packed_led zero (suc zero) (x ∷ y ∷ z ∷ []) first v none small three = refl
packed_led zero (suc (suc zero)) (x ∷ y ∷ z ∷ []) first v none small three = refl
packed_led zero (suc (suc (suc after))) (x ∷ y ∷ z ∷ []) first v none small three = absurd (omega arith)

-- ---- the numbers of a whole row
pub of_none : (row : List Datum) → length row ≡ 0 → row ≡ []
of_none [] h = refl
of_none (x ∷ row) h = absurd (omega arith)

pub of_one : (row : List Datum) (x : Datum) → length row ≡ 1 → slice_get row 0 ≡ Some x → row ≡ x ∷ []
of_one [] x h first = absurd (omega arith)
of_one (y ∷ []) x h first = search rules
of_one (y ∷ z ∷ row) x h first = absurd (omega arith)

pub of_two : (row : List Datum) (x y : Datum) → length row ≡ 2 → slice_get row 0 ≡ Some x → slice_get row 1 ≡ Some y → row ≡ x ∷ y ∷ []
of_two [] x y h first second = absurd (omega arith)
of_two (z ∷ row) x y h first second = let rest = of_one row y (omega arith) second in search rules

pub of_three : (row : List Datum) (x y z : Datum) → length row ≡ 3 → slice_get row 0 ≡ Some x → slice_get row 1 ≡ Some y → slice_get row 2 ≡ Some z → row ≡ x ∷ y ∷ z ∷ []
of_three [] x y z h first second third = absurd (omega arith)
of_three (w ∷ row) x y z h first second third = let rest = of_two row y z (omega arith) second third in search rules

-- ---- of what is kept
pub packed_fits : (kept : Kept) (before after : ℕ) (ns : List ℕ) (v : Value) → Fits kept → kept ≡ Packed before after ns v → (length ns ≡ 3) × (before + after ≤ 3)
packed_fits kept before after ns v fits is = subst Fits is fits

pub packed_shown : (kept : Kept) (row : List Datum) (before after : ℕ) (ns : List ℕ) (v : Value) → cells_in kept ≡ row → kept ≡ Packed before after ns v → row ≡ packed before after ns (datum_of v)
packed_shown kept row before after ns v view is = sym view ∙ ap cells_in is
