-- Fronts of a line, one after the other.
use Rattle.std.proofs.Common.{◌≡◌, ℕ, zero, suc, ◌+◌, ◌<◌, ◌≤◌, List, [], ◌∷◌, Some, length, drop, take, slice_get, get_or, refl, ap, ◌∙◌, arith, add-one}
use Rattle.std.proofs.Math.ListN.{drop_of_length-le}
use Rattle.model.proofs.Lists.{drop_at}
use Rattle.model.specs.Fronts.{LogView}
use Rattle.packet.specs.Lines.{entries_of, fronts_to}
use Rattle.packet.specs.Truth.{Pointwise}

module _ {X Y : Type 0} (R : X → Y → Type 0) where
  pub pointwise_at : (xs : List X) (ys : List Y) (i : ℕ) (x : X) (y : Y) → Pointwise R xs ys → slice_get xs i ≡ Some x → slice_get ys i ≡ Some y → R x y
  pointwise_at [] ys i x y h a b = cc
  pointwise_at (z ∷ xs) [] i x y h a b = absurd h
  pointwise_at (z ∷ xs) (w ∷ ys) zero x y h a b = let e : z ≡ x = cc in let f : w ≡ y = cc in rw (← e, ← f) h.0
  pointwise_at (z ∷ xs) (w ∷ ys) (suc i) x y h a b = pointwise_at xs ys i x y h.1 a b

  pub pointwise_length : (xs : List X) (ys : List Y) → Pointwise R xs ys → length xs ≡ length ys
  pointwise_length [] [] h = refl
  pointwise_length [] (y ∷ ys) h = absurd h
  pointwise_length (x ∷ xs) [] h = absurd h
  pointwise_length (x ∷ xs) (y ∷ ys) h = omega (arith, pointwise_length xs ys h.1)

drop_or : (xs : List ℕ) (i : ℕ) → i < length xs → drop i xs ≡ get_or xs i 0 ∷ drop (suc i) xs
drop_or [] i lt = absurd (omega (arith, lt))
drop_or (y ∷ ys) zero lt = refl
drop_or (y ∷ ys) (suc i) lt = drop_or ys i (omega (arith, lt))

-- the lines from source i on are one
abbrev pub Same : List ℕ → List LogView → List LogView → ℕ → Type 0
Same from to held i = fronts_to (drop i from) (entries_of (drop i to)) ≡ entries_of (drop i held)

none_to : (ns : List ℕ) → fronts_to ns [] ≡ []
none_to [] = refl
none_to (n ∷ ns) = refl

module _ (from : List ℕ) (to held : List LogView) (i : ℕ) where
  module _ (t h : LogView) (small : i < length from) (at_to : slice_get to i ≡ Some t) (at_held : slice_get held i ≡ Some h) where
    pub same_more : take (get_or from i 0) t.entries ≡ h.entries → Same from to held (i + 1) → Same from to held i
    same_more e rest = rw (drop_or from i small, drop_at to i t at_to, drop_at held i h at_held) (ap (λ x. x ∷ fronts_to (drop (suc i) from) (entries_of (drop (suc i) to))) e ∙ ap (λ xs. h.entries ∷ xs) (rw (add-one i) at rest))

    both : Same from to held i → (take (get_or from i 0) t.entries ∷ fronts_to (drop (suc i) from) (entries_of (drop (suc i) to))) ≡ (h.entries ∷ entries_of (drop (suc i) held))
    both s = rw (drop_or from i small, drop_at to i t at_to, drop_at held i h at_held) at s

    pub same_first : Same from to held i → take (get_or from i 0) t.entries ≡ h.entries
    same_first s = let e = both s in cc

    pub same_rest : Same from to held i → Same from to held (i + 1)
    same_rest s = let e = both s in rw (add-one i) cc

  pub same_end : length to ≡ length held → length held ≤ i → Same from to held i
  same_end n past = rw (drop_of_length-le to {i = i} (omega (arith, n, past)), drop_of_length-le held past) (none_to (drop i from))
