-- A list in order, and lists that are one bag.
use Rattle.std.proofs.Common.{◌≡◌, ◌+◌, Bool, true, false, ◌||◌, cond, List, [], ◌∷◌, map, flat_map, sum_by, IsPermutation, refl, ap, sym, ◌∙◌, Ordering}
use Rattle.std.proofs.lemmas.List.Sums.{sum_by-cons}
use Rattle.std.proofs.lemmas.List.Sorted.{sum_by-IsPermutation}
use Rattle.std.specs.declared.cmp.Ordering.TheVariants.{Equal}
use Rattle.std.specs.Ordering.{is_gt}
use Rattle.std.specs.List.{list_any}
use Rattle.std.specs.Cmp.{IsTotalOrder}
use Rattle.row.specs.Bags.{one, times, IsAlike, inserted, sorted}
use Rattle.row.proofs.BagLemmas.{times-sorted}
use Rattle.row.proofs.Alike.{flat_map_alike}

or_swap : (a b c : Bool) → (a || (b || c)) ≡ (b || (a || c))
or_swap true true c = refl
or_swap true false c = refl
or_swap false b c = refl

pub map_flat : {X Y : Type 0} (f : X → Y) (xs : List X) → map f xs ≡ flat_map (λ x. f x ∷ []) xs
map_flat f [] = refl
map_flat f (x ∷ xs) = ap (λ t. f x ∷ t) (map_flat f xs)

module _ {X : Type 0} (cmp : X → X → Ordering) where
  -- some element passes, whatever the order
  any_inserted : (p : X → Bool) (x : X) (ys : List X) → list_any p (inserted cmp x ys) ≡ (p x || list_any p ys)
  any_inserted p x [] = refl
  any_inserted p x (y ∷ ys) = step (is_gt (cmp x y)) (any_inserted p x ys)
    where
      step : (b : Bool) → list_any p (inserted cmp x ys) ≡ (p x || list_any p ys) → list_any p (cond b (y ∷ inserted cmp x ys) (x ∷ y ∷ ys)) ≡ (p x || (p y || list_any p ys))
      step true h = ap (λ t. p y || t) h ∙ or_swap (p y) (p x) (list_any p ys)
      step false h = refl

  pub any_sorted : (p : X → Bool) (xs : List X) → list_any p (sorted cmp xs) ≡ list_any p xs
  any_sorted p [] = refl
  any_sorted p (x ∷ xs) = any_inserted p x (sorted cmp xs) ∙ ap (λ t. p x || t) (any_sorted p xs)

  -- a list in order is the same bag
  pub sorted_self : (xs : List X) → IsAlike cmp (sorted cmp xs) xs
  sorted_self xs = record { each = λ z. times-sorted cmp z xs }

  times_sum : (z : X) (xs : List X) → times cmp z xs ≡ sum_by (one cmp z) xs
  times_sum z [] = refl
  times_sum z (x ∷ xs) = ap (λ t. one cmp z x + t) (times_sum z xs) ∙ sym (sum_by-cons (one cmp z) x xs)

  -- so is one with its elements in another order
  pub permuted_alike : (xs ys : List X) → IsPermutation xs ys → IsAlike cmp xs ys
  permuted_alike xs ys h = record { each = λ z. times_sum z xs ∙ (sym (sum_by-IsPermutation (one cmp z) xs ys h) ∙ sym (times_sum z ys)) }

  pub alike_sym : (xs ys : List X) → IsAlike cmp xs ys → IsAlike cmp ys xs
  alike_sym xs ys h = record { each = λ z. sym (h.each z) }

  pub map_alike : IsTotalOrder cmp → ((x y : X) → cmp x y ≡ Equal → x ≡ y) → (f : X → X) (xs ys : List X) → IsAlike cmp xs ys → IsAlike cmp (map f xs) (map f ys)
  map_alike total same f xs ys h =
      let k = flat_map_alike cmp total same cmp (λ x. f x ∷ []) xs ys h in
      record { each = λ z. ap (times cmp z) (map_flat f xs) ∙ (k.each z ∙ sym (ap (times cmp z) (map_flat f ys))) }
