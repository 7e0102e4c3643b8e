-- Two lists in order, put together from their fronts.
use Rattle.std.proofs.Common.{◌≡◌, ℕ, ◌+◌, ◌-◌, ◌<◌, get_or, drop, take, false, List, [], ◌∷◌, ◌++◌, length, sym, subst, ap, ◌∙◌, arith, Ordering}
use Rattle.std.specs.Ordering.{is_gt}
use Rattle.std.specs.Cmp.{IsTotalOrder}
use Rattle.std.proofs.lemmas.List.{append_assoc, drop_more, length-drop, take_all}
use Rattle.row.specs.Bags.{Each, times, IsAscending}
use Rattle.row.proofs.BagLemmas.{Each-weaker, times-append, up_chain}

-- what holds of each element of a list and of x holds of each where x stands between
Each-between : {X : Type 0} (P : X → Type 0) (done : List X) (x : X) (xs ys : List X) → Each P (done ++ x ∷ xs) → Each P (done ++ ys) → Each P (done ++ x ∷ ys)
Each-between P [] x xs ys h k = (h.0, k)
Each-between P (d ∷ done) x xs ys h k = (h.0, Each-between P done x xs ys h.1 k.1)

-- a list from a place on to its end
pub rest_is : {X : Type 0} (xs : List X) (i : ℕ) → take (length xs - i) (drop i xs) ≡ drop i xs
rest_is xs i = take_all (length xs - i) (drop i xs) (omega (arith, length-drop i xs))

module _ {X : Type 0} (cmp : X → X → Ordering) (total : IsTotalOrder cmp) where
  -- the first of one list, where it is not above that of the other, goes in front of the other
  goes_between : (done : List X) (x : X) (xs : List X) (y : X) (ys : List X) → is_gt (cmp x y) ≡ false → IsAscending cmp (done ++ x ∷ xs) → IsAscending cmp (done ++ y ∷ ys) → IsAscending cmp (done ++ x ∷ y ∷ ys)
  goes_between [] x xs y ys h up other = ((h, Each-weaker (λ z. is_gt (cmp y z) ≡ false) (λ z. is_gt (cmp x z) ≡ false) (λ z k. up_chain cmp total x y z h k) ys other.0), other)
  goes_between (d ∷ done) x xs y ys h up other = (Each-between (λ z. is_gt (cmp d z) ≡ false) done x xs (y ∷ ys) up.0 other.0, goes_between done x xs y ys h up.1 other.1)

  module _ (xs ys : List X) (i j : ℕ) (x y : X) (small : i < length xs) (here : x ≡ get_or xs i x) (within : j < length ys) (there : y ≡ get_or ys j y) (done : List X) where
    first : drop i xs ≡ x ∷ drop (i + 1) xs
    first = drop_more xs i x small ∙ ap (λ e. e ∷ drop (i + 1) xs) (sym here)

    second : drop j ys ≡ y ∷ drop (j + 1) ys
    second = drop_more ys j y within ∙ ap (λ e. e ∷ drop (j + 1) ys) (sym there)

    -- behind what was put together and x the list of x goes on
    pub own_up : IsAscending cmp (done ++ drop i xs) → IsAscending cmp ((done ++ x ∷ []) ++ drop (i + 1) xs)
    own_up up = subst (IsAscending cmp) (ap (λ l. done ++ l) first ∙ sym (append_assoc done (x ∷ []) (drop (i + 1) xs))) up

    -- and the other list, whose first is not below x
    pub other_up : is_gt (cmp x y) ≡ false → IsAscending cmp (done ++ drop i xs) → IsAscending cmp (done ++ drop j ys) → IsAscending cmp ((done ++ x ∷ []) ++ drop j ys)
    other_up h up other =
        subst (IsAscending cmp) (ap (λ l. done ++ x ∷ l) (sym second) ∙ sym (append_assoc done (x ∷ []) (drop j ys)))
        (goes_between done x (drop (i + 1) xs) y (drop (j + 1) ys) h (subst (λ l. IsAscending cmp (done ++ l)) first up) (subst (λ l. IsAscending cmp (done ++ l)) second other))

    -- x counts where it was put, and no more where it was
    pub moved : (z : X) → times cmp z (done ++ x ∷ []) + times cmp z (drop (i + 1) xs) ≡ times cmp z done + times cmp z (drop i xs)
    moved z = omega (arith, times-append cmp z done (x ∷ []), ap (times cmp z) first)
