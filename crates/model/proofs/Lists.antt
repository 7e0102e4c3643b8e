-- Lists: what holds of each element, one more element, and a part of each.
use Rattle.std.proofs.Common.{◌≡◌, ℕ, zero, suc, ◌+◌, ◌<◌, ◌≤◌, List, [], ◌∷◌, ◌++◌, map, length, take, drop, get_or, slice_get, Some, slice_index_or, slice_set, refl, ap, ◌∙◌, arith, subst, sym, ◌⊎◌, inl, inr}
use Rattle.std.proofs.lemmas.List.{take_more, map-append, map-set, length-map}
use Rattle.row.specs.Bags.{Each}

pub each_push : {X : Type 0} (P : X → Type 0) (xs : List X) (y : X) → Each P xs → P y → Each P (xs ++ y ∷ [])
each_push P [] y h q = (q, tt)
each_push P (x ∷ xs) y h q = (h.0, each_push P xs y h.1 q)

-- what was read of a list, as a part of each element
pub read_map : {A B : Type 0} (f : A → B) (l : List A) (i : ℕ) (x : A) (d : B) → i < length l → x ≡ slice_index_or l i x → f x ≡ slice_index_or (map f l) i d
read_map f [] i x d lt is = absurd (omega arith)
read_map f (y ∷ l) zero x d lt is = ap f is
read_map f (y ∷ l) (suc i) x d lt is = read_map f l i x d (omega arith) is

-- of a list whose elements each have a list, with an item of one of these set
pub set_in : {A B : Type 0} (f : A → List B) (l : List A) (i j : ℕ) (b : B) (x y : A) → i < length (map f l) → x ≡ slice_index_or l i x → f y ≡ slice_set (f x) j b
    → map f (slice_set l i y) ≡ slice_set (map f l) i (slice_set (slice_index_or (map f l) i []) j b)
set_in f l i j b x y lt is set =
    map-set f l i y
    ∙ ap (λ r. slice_set (map f l) i r) (set ∙ ap (λ r. slice_set r j b) (read_map f l i x [] (omega (arith, lt, length-map l f)) is))

-- at a place
pub each_at : {X : Type 0} (P : X → Type 0) (xs : List X) (i : ℕ) (d : X) → Each P xs → i < length xs → P (get_or xs i d)
each_at P [] i d h lt = absurd (omega arith)
each_at P (x ∷ xs) zero d h lt = h.0
each_at P (x ∷ xs) (suc i) d h lt = each_at P xs i d h.1 (omega arith)

-- of the next one too
pub each_more : {X : Type 0} (P : X → Type 0) (xs : List X) (i : ℕ) (x : X) → i < length xs → x ≡ get_or xs i x → Each P (take i xs) → P x → Each P (take (i + 1) xs)
each_more {X} P xs i x lt is h k = rw (take_more xs i x lt, ← is) (each_push P (take i xs) x h k)

-- of the one at the place
pub each_one : {X : Type 0} (P : X → Type 0) (xs : List X) (i : ℕ) (x : X) → i < length xs → x ≡ get_or xs i x → Each P xs → P x
each_one {X} P xs i x lt is h = subst P (sym is) (each_at P xs i x h lt)

-- past the end stands what is asked for there
pub past_end : {X : Type 0} (xs : List X) (i : ℕ) (d : X) → length xs ≤ i → get_or xs i d ≡ d
past_end [] i d le = refl
past_end (x ∷ xs) zero d le = absurd (omega arith)
past_end (x ∷ xs) (suc i) d le = past_end xs i d (omega arith)

-- before it, that does not matter
pub any_end : {X : Type 0} (xs : List X) (i : ℕ) (d e : X) → i < length xs → get_or xs i d ≡ get_or xs i e
any_end [] i d e lt = absurd (omega arith)
any_end (x ∷ xs) zero d e lt = refl
any_end (x ∷ xs) (suc i) d e lt = any_end xs i d e (omega arith)

-- what is left from place i on, the first of which is x
pub drop_at : {X : Type 0} (xs : List X) (i : ℕ) (x : X) → slice_get xs i ≡ Some x → drop i xs ≡ x ∷ drop (suc i) xs
drop_at [] i x is = cc
drop_at (y ∷ ys) zero x is = let same : y ≡ x = cc in ap (λ z. z ∷ ys) same
drop_at (y ∷ ys) (suc i) x is = drop_at ys i x is

-- below, or not
pub below_or_not : (a b : ℕ) → (a < b) ⊎ (b ≤ a)
below_or_not zero zero = inr (omega arith)
below_or_not zero (suc b) = inl (omega arith)
below_or_not (suc a) zero = inr (omega arith)
below_or_not (suc a) (suc b) = elim (below_or_not a b) as (λ _. (suc a < suc b) ⊎ (suc b ≤ suc a)) [ inl lt ↦ inl (omega arith) | inr le ↦ inr (omega arith) ]

-- what holds at each place holds of each
pub each_of : {X : Type 0} (P : X → Type 0) (d : X) (xs : List X) → ((i : ℕ) → i < length xs → P (get_or xs i d)) → Each P xs
each_of P d [] h = tt
each_of P d (x ∷ xs) h = (h 0 (omega arith), each_of P d xs (λ i lt. h (suc i) (omega arith)))

-- ---- along a list that is mapped
module _ {X Y : Type 0} (f : X → Y) (P : Y → Type 0) where
  pub mapped_more : (xs : List X) (i : ℕ) (d : X) → i < length xs → Each P (map f (take i xs)) → P (f (get_or xs i d)) → Each P (map f (take (i + 1) xs))
  mapped_more xs i d lt h k = rw (take_more xs i d lt, map-append f (take i xs) (get_or xs i d ∷ [])) (each_push P (map f (take i xs)) (f (get_or xs i d)) h k)

  pub mapped_at : (xs : List X) (i : ℕ) (d : X) → i < length xs → Each P (map f xs) → P (f (get_or xs i d))
  mapped_at [] i d lt h = absurd (omega arith)
  mapped_at (x ∷ xs) zero d lt h = h.0
  mapped_at (x ∷ xs) (suc i) d lt h = mapped_at xs i d (omega arith) h.1
