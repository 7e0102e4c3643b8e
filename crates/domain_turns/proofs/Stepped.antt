-- A list whose places change one after the other.
use Rattle.std.proofs.Common.{◌≡◌, ℕ, zero, suc, ◌+◌, ◌<◌, List, [], ◌∷◌, length, map, slice_set, slice_index_or, refl, ap, sym, ◌∙◌, arith}

module _ {X : Type 0} (f : X → X) where
  -- the first places have changed, and the others are as they were
  abbrev pub up_to : ℕ → List X → List X
  up_to zero xs = xs
  up_to (suc i) [] = []
  up_to (suc i) (x ∷ xs) = f x ∷ up_to i xs

  pub all_of : (xs : List X) → up_to (length xs) xs ≡ map f xs
  all_of [] = refl
  all_of (x ∷ xs) = ap (λ l. f x ∷ l) (all_of xs)

  pub same_length : (i : ℕ) (xs : List X) → length (up_to i xs) ≡ length xs
  same_length zero xs = refl
  same_length (suc i) [] = refl
  same_length (suc i) (x ∷ xs) = ap suc (same_length i xs)

  -- the next place is still as it was
  pub not_yet : (i : ℕ) (xs : List X) (d : X) → slice_index_or (up_to i xs) i d ≡ slice_index_or xs i d
  not_yet zero xs d = refl
  not_yet (suc i) [] d = refl
  not_yet (suc i) (x ∷ xs) d = not_yet i xs d

  pub one_more : (i : ℕ) (xs : List X) (d : X) → i < length xs → slice_set (up_to i xs) i (f (slice_index_or xs i d)) ≡ up_to (suc i) xs
  one_more i [] d lt = absurd (omega (arith, lt))
  one_more zero (x ∷ xs) d lt = refl
  one_more (suc i) (x ∷ xs) d lt = ap (λ l. f x ∷ l) (one_more i xs d (omega (arith, lt)))

pub set_same : {X : Type 0} (i : ℕ) (xs : List X) (d : X) → slice_set xs i (slice_index_or xs i d) ≡ xs
set_same i [] d = refl
set_same zero (x ∷ xs) d = refl
set_same (suc i) (x ∷ xs) d = ap (λ l. x ∷ l) (set_same i xs d)

module _ {X : Type 0} (f : X → X) where
  -- a place that changed as it is to
  pub changed : (i : ℕ) (old now next : List X) (d v : X) → now ≡ up_to f i old → i < length old → v ≡ f (slice_index_or now i d) → next ≡ slice_set now i v → next ≡ up_to f (i + 1) old
  changed i old now next d v is lt value step =
      let more : suc i ≡ i + 1 = omega arith in
      step ∙ (ap (λ x. slice_set now i x) value
      ∙ (ap (λ l. slice_set l i (f (slice_index_or l i d))) is
      ∙ (ap (λ x. slice_set (up_to f i old) i (f x)) (not_yet f i old d)
      ∙ (one_more f i old d lt
      ∙ ap (λ n. up_to f n old) more))))

  -- a place that stays, as it is to
  pub stayed : (i : ℕ) (old now : List X) (d : X) → now ≡ up_to f i old → i < length old → f (slice_index_or now i d) ≡ slice_index_or now i d → now ≡ up_to f (i + 1) old
  stayed i old now d is lt same = changed i old now now d (slice_index_or now i d) is lt (sym same) (sym (set_same i now d))

  -- all places have changed
  pub ended : (i : ℕ) (old now : List X) → now ≡ up_to f i old → i ≡ length old → now ≡ map f old
  ended i old now is end = is ∙ (ap (λ n. up_to f n old) end ∙ all_of f old)

  pub kept_length : (i : ℕ) (old now : List X) → now ≡ up_to f i old → length now ≡ length old
  kept_length i old now is = ap length is ∙ same_length f i old
