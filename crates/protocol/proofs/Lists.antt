-- Lists with one place changed.
use Rattle.std.proofs.Common.{◌≡◌, ℕ, zero, suc, ◌==◌, false, List, [], ◌∷◌, Some, None, map, length, slice_get, slice_set, slice_index_or, replicate, refl, ap, sym, ◌∙◌, subst, arith, ◌⊎◌, inl, inr}
use Rattle.std.proofs.lemmas.Bool.Decides.{nat_tests}
use Rattle.row.specs.Bags.{Each}
use Rattle.packet.specs.Truth.{Pointwise}

more : (i j : ℕ) → (i == j) ≡ false → (suc i == suc j) ≡ false
more i j e = grind (arith, nat_tests)

module _ {X : Type 0} where
  pub each_at : (P : X → Type 0) (xs : List X) (i : ℕ) (x : X) → slice_get xs i ≡ Some x → Each P xs → P x
  each_at P [] i x at h = cc
  each_at P (y ∷ xs) zero x at h = let e : y ≡ x = cc in subst P e h.0
  each_at P (y ∷ xs) (suc i) x at h = each_at P xs i x at h.1

  pub each_set : (P : X → Type 0) (xs : List X) (i : ℕ) (x : X) → P x → Each P xs → Each P (slice_set xs i x)
  each_set P [] i x p h = tt
  each_set P (y ∷ xs) zero x p h = (p, h.1)
  each_set P (y ∷ xs) (suc i) x p h = (h.0, each_set P xs i x p h.1)

  pub each_map : {Y : Type 0} (P : X → Type 0) (Q : Y → Type 0) (f : X → Y) → ((x : X) → P x → Q (f x)) → (xs : List X) → Each P xs → Each Q (map f xs)
  each_map P Q f g [] h = tt
  each_map P Q f g (x ∷ xs) h = (g x h.0, each_map P Q f g xs h.1)

  pub each_to : (P Q : X → Type 0) → ((x : X) → P x → Q x) → (xs : List X) → Each P xs → Each Q xs
  each_to P Q g [] h = tt
  each_to P Q g (x ∷ xs) h = (g x h.0, each_to P Q g xs h.1)

  pub each_of : (P : X → Type 0) → (xs : List X) → ((x : X) → P x) → Each P xs
  each_of P [] g = tt
  each_of P (x ∷ xs) g = (g x, each_of P xs g)

  pub each_replicate : (P : X → Type 0) (n : ℕ) (x : X) → P x → Each P (replicate n x)
  each_replicate P zero x p = tt
  each_replicate P (suc n) x p = (p, each_replicate P n x p)

  pub set_same : (xs : List X) (i : ℕ) (x : X) → slice_get xs i ≡ Some x → slice_set xs i x ≡ xs
  set_same [] i x at = refl
  set_same (y ∷ xs) zero x at = let e : y ≡ x = cc in ap (λ z. z ∷ xs) (sym e)
  set_same (y ∷ xs) (suc i) x at = ap (λ ys. y ∷ ys) (set_same xs i x at)

  pub set_none : (xs : List X) (i : ℕ) (x : X) → slice_get xs i ≡ None → slice_set xs i x ≡ xs
  set_none [] i x at = refl
  set_none (y ∷ xs) zero x at = cc
  set_none (y ∷ xs) (suc i) x at = ap (λ ys. y ∷ ys) (set_none xs i x at)

  pub set_size : (xs : List X) (i : ℕ) (x : X) → length (slice_set xs i x) ≡ length xs
  set_size [] i x = refl
  set_size (y ∷ xs) zero x = refl
  set_size (y ∷ xs) (suc i) x = ap suc (set_size xs i x)

  pub set_at : (xs : List X) (i : ℕ) (x y : X) → slice_get xs i ≡ Some y → slice_get (slice_set xs i x) i ≡ Some x
  set_at [] i x y at = cc
  set_at (z ∷ xs) zero x y at = refl
  set_at (z ∷ xs) (suc i) x y at = set_at xs i x y at

  -- what stands there then is the new one, or what stood there
  pub got : (xs : List X) (i : ℕ) (x : X) (j : ℕ) (y : X) → slice_get (slice_set xs i x) j ≡ Some y → ((j ≡ i) × (y ≡ x)) ⊎ (((i == j) ≡ false) × (slice_get xs j ≡ Some y))
  got [] i x j y at = cc
  got (z ∷ xs) zero x zero y at = inl (refl, cc)
  got (z ∷ xs) zero x (suc j) y at = inr (grind (arith, nat_tests), at)
  got (z ∷ xs) (suc i) x zero y at = inr (grind (arith, nat_tests), at)
  got (z ∷ xs) (suc i) x (suc j) y at =
      elim (got xs i x j y at) as (λ _. ((suc j ≡ suc i) × (y ≡ x)) ⊎ (((suc i == suc j) ≡ false) × (slice_get xs j ≡ Some y))) [ inl r ↦ inl (ap suc r.0, r.1) | inr r ↦ inr (more i j r.0, r.1) ]

  pub map_set : {Y : Type 0} (f : X → Y) (xs : List X) (i : ℕ) (x : X) → map f (slice_set xs i x) ≡ slice_set (map f xs) i (f x)
  map_set f [] i x = refl
  map_set f (y ∷ xs) zero x = refl
  map_set f (y ∷ xs) (suc i) x = ap (λ ys. f y ∷ ys) (map_set f xs i x)

  pub map_get : {Y : Type 0} (f : X → Y) (xs : List X) (i : ℕ) (x : X) → slice_get xs i ≡ Some x → slice_get (map f xs) i ≡ Some (f x)
  map_get f [] i x at = cc
  map_get f (y ∷ xs) zero x at = let e : y ≡ x = cc in ap (λ z. Some (f z)) e
  map_get f (y ∷ xs) (suc i) x at = map_get f xs i x at

  -- f does not tell the new one from the old
  pub map_same : {Y : Type 0} (f : X → Y) (xs : List X) (i : ℕ) (x y : X) → slice_get xs i ≡ Some x → f y ≡ f x → map f (slice_set xs i y) ≡ map f xs
  map_same f [] i x y at e = refl
  map_same f (z ∷ xs) zero x y at e = let s : z ≡ x = cc in ap (λ v. v ∷ map f xs) (e ∙ ap f (sym s))
  map_same f (z ∷ xs) (suc i) x y at e = ap (λ ys. f z ∷ ys) (map_same f xs i x y at e)

  pub or_of : (xs : List X) (i : ℕ) (x d : X) → slice_get xs i ≡ Some x → slice_index_or xs i d ≡ x
  or_of [] i x d at = cc
  or_of (y ∷ xs) zero x d at = cc
  or_of (y ∷ xs) (suc i) x d at = or_of xs i x d at

  pub or_none : (xs : List X) (i : ℕ) (d : X) → slice_get xs i ≡ None → slice_index_or xs i d ≡ d
  or_none [] i d at = refl
  or_none (y ∷ xs) zero d at = cc
  or_none (y ∷ xs) (suc i) d at = or_none xs i d at

module _ {X Y : Type 0} (R : X → Y → Type 0) where
  pub pair_size : (xs : List X) (ys : List Y) → Pointwise R xs ys → length xs ≡ length ys
  pair_size [] [] h = refl
  pair_size [] (y ∷ ys) h = absurd h
  pair_size (x ∷ xs) [] h = absurd h
  pair_size (x ∷ xs) (y ∷ ys) h = ap suc (pair_size xs ys h.1)

  pub pair_right : (xs : List X) (ys : List Y) (i : ℕ) (x : X) (z : Y) → slice_get xs i ≡ Some x → R x z → Pointwise R xs ys → Pointwise R xs (slice_set ys i z)
  pair_right [] ys i x z at g h = cc
  pair_right (v ∷ xs) [] i x z at g h = absurd h
  pair_right (v ∷ xs) (w ∷ ys) zero x z at g h = let e : x ≡ v = cc in (subst (λ u. R u z) e g, h.1)
  pair_right (v ∷ xs) (w ∷ ys) (suc i) x z at g h = (h.0, pair_right xs ys i x z at g h.1)

  -- the one of the left goes over to another that is as well with each
  pub pair_left : (xs : List X) (ys : List Y) (i : ℕ) (x z : X) → slice_get xs i ≡ Some x → ((y : Y) → R x y → R z y) → Pointwise R xs ys → Pointwise R (slice_set xs i z) ys
  pair_left [] ys i x z at g h = h
  pair_left (v ∷ xs) [] i x z at g h = absurd h
  pair_left (v ∷ xs) (w ∷ ys) zero x z at g h = let e : v ≡ x = cc in (g w (subst (λ u. R u w) e h.0), h.1)
  pair_left (v ∷ xs) (w ∷ ys) (suc i) x z at g h = (h.0, pair_left xs ys i x z at g h.1)

  -- both sides of one place change
  pub pair_both : (d : Y) (xs : List X) (ys : List Y) (i : ℕ) (x z : X) (w : Y) → slice_get xs i ≡ Some x → (R x (slice_index_or ys i d) → R z w) → Pointwise R xs ys → Pointwise R (slice_set xs i z) (slice_set ys i w)
  pair_both d [] [] i x z w at g h = tt
  pair_both d [] (y ∷ ys) i x z w at g h = absurd h
  pair_both d (v ∷ xs) [] i x z w at g h = absurd h
  pair_both d (v ∷ xs) (y ∷ ys) zero x z w at g h = let e : v ≡ x = cc in (g (subst (λ u. R u y) e h.0), h.1)
  pair_both d (v ∷ xs) (y ∷ ys) (suc i) x z w at g h = (h.0, pair_both d xs ys i x z w at g h.1)

  pub pair_at : (xs : List X) (ys : List Y) (i : ℕ) (x : X) (d : Y) → slice_get xs i ≡ Some x → Pointwise R xs ys → R x (slice_index_or ys i d)
  pair_at [] ys i x d at h = cc
  pair_at (v ∷ xs) [] i x d at h = absurd h
  pair_at (v ∷ xs) (w ∷ ys) zero x d at h = let e : v ≡ x = cc in subst (λ u. R u w) e h.0
  pair_at (v ∷ xs) (w ∷ ys) (suc i) x d at h = pair_at xs ys i x d at h.1

  pub pair_none : (xs : List X) (ys : List Y) (i : ℕ) → slice_get xs i ≡ None → Pointwise R xs ys → slice_get ys i ≡ None
  pair_none [] [] i at h = refl
  pair_none [] (y ∷ ys) i at h = absurd h
  pair_none (v ∷ xs) [] i at h = absurd h
  pair_none (v ∷ xs) (w ∷ ys) zero at h = cc
  pair_none (v ∷ xs) (w ∷ ys) (suc i) at h = pair_none xs ys i at h.1
