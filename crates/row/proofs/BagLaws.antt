-- Counts of what is made of lists, and a sort by its counts.
use Rattle.std.proofs.Common.{◌≡◌, zero, suc, ◌+◌, false, List, [], ◌∷◌, sum_by, IsPermutation, refl, ap, sym, ◌∙◌, arith, Ordering}
use Rattle.std.proofs.lemmas.List.Sums.{sum_by-cons}
use Rattle.std.proofs.lemmas.List.Sorted.{sum_by-IsPermutation}
use Rattle.std.specs.declared.cmp.Ordering.TheVariants.{Less, Equal, Greater}
use Rattle.std.specs.Ordering.{is_gt, is_lt, ordering_reverse}
use Rattle.std.specs.List.Sorted.{IsSorted}
use Rattle.std.specs.Cmp.{IsTotalOrder}
use Rattle.row.specs.Bags.{one, times, sorted, removed, IsAscending}
use Rattle.row.proofs.BagLemmas.{Each-weaker, up_chain, times-sorted, IsAscending-sorted, one_list}

-- the list without the elements of the other one, each as often as it is there
abbrev pub without : {X : Type 0} → (X → X → Ordering) → List X → List X → List X
without cmp xs [] = xs
without cmp xs (y ∷ ys) = without cmp (removed cmp y xs) ys

above_turned : (o : Ordering) → is_lt o ≡ false → is_gt (ordering_reverse o) ≡ false
above_turned Less h = absurd cc
above_turned Equal h = refl
above_turned Greater h = refl

module _ {X : Type 0} (cmp : X → X → Ordering) where
  times_sum : (z : X) (xs : List X) → times cmp z xs ≡ sum_by (one cmp z) xs
  times_sum z [] = refl
  times_sum z (x ∷ xs) = ap (λ t. one cmp z x + t) (times_sum z xs) ∙ sym (sum_by-cons (one cmp z) x xs)

  -- the same elements in another order
  pub times-permuted : (z : X) (xs ys : List X) → IsPermutation xs ys → times cmp z xs ≡ times cmp z ys
  times-permuted z xs ys h = times_sum z xs ∙ (sym (sum_by-IsPermutation (one cmp z) xs ys h) ∙ sym (times_sum z ys))

  module _ (total : IsTotalOrder cmp) where
    sorted_more : (x y : X) (xs : List X) → is_gt (cmp x y) ≡ false → IsAscending cmp (y ∷ xs) → IsAscending cmp (x ∷ y ∷ xs)
    sorted_more x y xs h up = ((h, Each-weaker (λ z. is_gt (cmp y z) ≡ false) (λ z. is_gt (cmp x z) ≡ false) (λ z k. up_chain cmp total x y z h k) xs up.0), up)

    -- no element less than the one before it
    pub IsAscending-of_sorted : (xs : List X) → IsSorted cmp xs → IsAscending cmp xs
    IsAscending-of_sorted [] h = tt
    IsAscending-of_sorted (x ∷ []) h = (tt, tt)
    IsAscending-of_sorted (x ∷ y ∷ xs) h =
        sorted_more x y xs (rw (total.antisymm x y) (above_turned (cmp y x) (h zero x (omega arith) (omega arith))))
        (IsAscending-of_sorted (y ∷ xs) (λ k d low small. let e : suc k + 1 ≡ suc (k + 1) = omega arith in rw e at (h (suc k) d (omega arith) (omega arith))))

    module _ (same : (x y : X) → cmp x y ≡ Equal → x ≡ y) where
      -- what the sort of a list leaves is the list in order
      pub sort_is : (xs ys : List X) → IsPermutation xs ys → IsSorted cmp ys → ys ≡ sorted cmp xs
      sort_is xs ys moved up =
          one_list cmp total same ys (sorted cmp xs) (IsAscending-of_sorted ys up) (IsAscending-sorted cmp total xs)
          (λ z. sym (times-permuted z xs ys moved) ∙ sym (times-sorted cmp z xs))
