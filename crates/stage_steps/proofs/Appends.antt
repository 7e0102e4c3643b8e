-- What goes to each receiver, one after the other.
use Rattle.std.proofs.Common.{◌≡◌, ℕ, ◌+◌, ◌<◌, ◌≤◌, List, [], ◌∷◌, ◌++◌, map, length, slice_index_or, slice_set, refl, ap, sym, ◌∙◌, arith, append_assoc, length-append}
use Rattle.std.proofs.lemmas.List.{append-nil, length-map, map-append}
use Rattle.packet.specs.Outboxes.{EdgeView, packets_on}
use Rattle.protocol.specs.StageSteps.{append_each}

module _ {X : Type 0} where
  pub append_none : (xss : List (List X)) → append_each xss [] ≡ xss
  append_none [] = refl
  append_none (xs ∷ xss) = refl

  -- one receiver more
  append_suc : (xss yss : List (List X)) (ys : List X) → length yss < length xss → append_each xss (yss ++ ys ∷ []) ≡ slice_set (append_each xss yss) (length yss) (slice_index_or (append_each xss yss) (length yss) [] ++ ys)
  append_suc [] yss ys lt = absurd (omega (arith, lt))
  append_suc (xs ∷ xss) [] ys lt = ap (λ l. (xs ++ ys) ∷ l) (append_none xss)
  append_suc (xs ∷ xss) (zs ∷ yss) ys lt = ap (λ l. (xs ++ zs) ∷ l) (append_suc xss yss ys (omega (arith, lt)))

  pub append_more : (xss yss : List (List X)) (ys : List X) (i : ℕ) → i ≡ length yss → i < length xss → append_each xss (yss ++ ys ∷ []) ≡ slice_set (append_each xss yss) i (slice_index_or (append_each xss yss) i [] ++ ys)
  append_more xss yss ys i at lt = rw at (append_suc xss yss ys (omega (arith, at, lt)))

  pub append_assoc_each : (xss yss zss : List (List X)) → append_each (append_each xss yss) zss ≡ append_each xss (append_each yss zss)
  append_assoc_each [] yss zss = refl
  append_assoc_each (xs ∷ xss) [] zss = refl
  append_assoc_each (xs ∷ xss) (ys ∷ yss) [] = refl
  append_assoc_each (xs ∷ xss) (ys ∷ yss) (zs ∷ zss) = λ i. append_assoc xs ys zs i ∷ append_assoc_each xss yss zss i

  -- nothing to each
  pub append_nothing : {A : Type 0} (xss : List (List X)) (as_ : List A) → length as_ ≤ length xss → append_each xss (map (λ a. []) as_) ≡ xss
  append_nothing [] [] le = refl
  append_nothing [] (a ∷ as_) le = absurd (omega (arith, le))
  append_nothing (xs ∷ xss) [] le = refl
  append_nothing (xs ∷ xss) (a ∷ as_) le = λ i. append-nil xs i ∷ append_nothing xss as_ (omega (arith, le)) i

  pub append_maps : {A : Type 0} (f g : A → List X) (as_ : List A) → append_each (map f as_) (map g as_) ≡ map (λ a. f a ++ g a) as_
  append_maps f g [] = refl
  append_maps f g (a ∷ rest) = ap (λ xs. (f a ++ g a) ∷ xs) (append_maps f g rest)

-- ---- a list of which some is done
module _ {A : Type 0} where
  pub next_there : (done : List A) (x : A) (rest all : List A) (n m : ℕ) → n ≡ length done → done ++ x ∷ rest ≡ all → length all ≡ m → n < m
  next_there done x rest all n m at whole count =
      let both = ap length whole in
      omega (arith, at, both, count, length-append done (x ∷ rest))

  pub next_place : (done : List A) (x : A) (n : ℕ) → n ≡ length done → n + 1 ≡ length (done ++ x ∷ [])
  next_place done x n at = omega (arith, at, length-append done (x ∷ []))

module _ {A P : Type 0} (f : A → List P) where
  pub told_more : (old now then : List (EdgeView P)) (done : List A) (x : A) (i : ℕ) → i ≡ length done → i < length now → length now ≡ length old → packets_on now ≡ append_each (packets_on old) (map f done)
      → packets_on then ≡ slice_set (packets_on now) i (slice_index_or (packets_on now) i [] ++ f x) → packets_on then ≡ append_each (packets_on old) (map f (done ++ x ∷ []))
  told_more old now then done x i at lt count is more =
      more
      ∙ (ap (λ ps. slice_set ps i (slice_index_or ps i [] ++ f x)) is
      ∙ (sym (append_more (packets_on old) (map f done) (f x) i (at ∙ sym (length-map done f)) (let n = length-map old (λ (e : EdgeView P). e.packets) in omega (arith, lt, count, n)))
      ∙ ap (append_each (packets_on old)) (sym (map-append f done (x ∷ [])))))
