-- One row in the place of another, in rows in order.
use Rattle.std.proofs.Common.{◌≡◌, ℕ, zero, suc, ◌+◌, ◌-◌, ◌<◌, ◌≤◌, Bool, true, false, List, [], ◌∷◌, map, length, get_or, slice_set, refl, ap, sym, ◌∙◌, subst, arith, Ordering, Result, Ok, Err, IfOk}
use Rattle.std.specs.declared.cmp.Ordering.TheVariants.{Equal}
use Rattle.std.specs.Ordering.{is_eq, is_gt}
use Rattle.std.specs.Cmp.{IsTotalOrder}
use Rattle.std.proofs.lemmas.Cmp.{tied_itself}
use Rattle.std.proofs.lemmas.List.{length-map}
use Rattle.row.specs.Bags.{Each, one, times, IsAscending, inserted, removed}
use Rattle.row.specs.Cells.{Cells, row_cmp}
use Rattle.row.specs.CellOrder.{row_total, row_same}
use Rattle.placed_rows.specs.Here.{cells_at}
use Rattle.placed_rows.specs.declared.in_place.InPlace.{InPlace}
use Rattle.key_rows.specs.Shared.{rows_in}
use Rattle.key_rows.specs.declared.shared.Held.{Held}
use Rattle.key_rows.proofs.Pieced.{get_or_any}
use Rattle.row.proofs.BagLemmas.{Each-at, Each-weaker, IsAscending-inserted, IsAscending-removed, one_list, times_there, times-inserted, times-removed, up_chain}

pub map_set : {X Y : Type 0} (f : X → Y) (xs : List X) (i : ℕ) (y : X) → map f (slice_set xs i y) ≡ slice_set (map f xs) i (f y)
map_set f [] i y = refl
map_set f (x ∷ xs) zero y = refl
map_set f (x ∷ xs) (suc i) y = ap (λ t. f x ∷ t) (map_set f xs i y)

pub Each_set : {X : Type 0} (P : X → Type 0) (xs : List X) (i : ℕ) (y : X) → P y → Each P xs → Each P (slice_set xs i y)
Each_set P [] i y p h = h
Each_set P (x ∷ xs) zero y p h = (p, h.1)
Each_set P (x ∷ xs) (suc i) y p h = (h.0, Each_set P xs i y p h.1)

pub length_set : {X : Type 0} (xs : List X) (i : ℕ) (y : X) → length (slice_set xs i y) ≡ length xs
length_set [] i y = refl
length_set (x ∷ xs) zero y = refl
length_set (x ∷ xs) (suc i) y = ap suc (length_set xs i y)

pub get_or_map : {X Y : Type 0} (f : X → Y) (xs : List X) (i : ℕ) (d : X) → get_or (map f xs) i (f d) ≡ f (get_or xs i d)
get_or_map f [] i d = refl
get_or_map f (x ∷ xs) zero d = refl
get_or_map f (x ∷ xs) (suc i) d = get_or_map f xs i d

module _ {X : Type 0} (cmp : X → X → Ordering) where
  times_set : (z : X) (xs : List X) (i : ℕ) (d y : X) → i < length xs → times cmp z (slice_set xs i y) + one cmp z (get_or xs i d) ≡ times cmp z xs + one cmp z y
  times_set z [] i d y h = absurd (omega arith)
  times_set z (x ∷ xs) zero d y h = omega arith
  times_set z (x ∷ xs) (suc i) d y h = omega (arith, times_set z xs i d y (omega arith))

  module _ (total : IsTotalOrder cmp) where
    pub set_ascending : (xs : List X) (i : ℕ) (y : X) → IsAscending cmp xs → i < length xs → ((j : ℕ) (d : X) → suc j ≡ i → is_gt (cmp (get_or xs j d) y) ≡ false) → ((d : X) → suc i < length xs → is_gt (cmp y (get_or xs (suc i) d)) ≡ false)
        → IsAscending cmp (slice_set xs i y)
    set_ascending [] i y up h low high = absurd (omega arith)
    set_ascending (x ∷ []) zero y up h low high = (tt, tt)
    set_ascending (x ∷ w ∷ xs) zero y up h low high =
        let first : is_gt (cmp y w) ≡ false = high y (omega arith) in
        ((first, Each-weaker (λ z. is_gt (cmp w z) ≡ false) (λ z. is_gt (cmp y z) ≡ false) (λ z m. up_chain cmp total y w z first m) xs up.1.0), up.1)
    set_ascending (x ∷ xs) (suc i) y up h low high =
        (Each_set (λ z. is_gt (cmp x z) ≡ false) xs i y (behind i h low) up.0, set_ascending xs i y up.1 (omega arith) (λ j d e. low (suc j) d (ap suc e)) (λ d m. high d (omega (arith, m))))
      where
        behind : (i : ℕ) → suc i < length (x ∷ xs) → ((j : ℕ) (d : X) → suc j ≡ suc i → is_gt (cmp (get_or (x ∷ xs) j d) y) ≡ false) → is_gt (cmp x y) ≡ false
        behind zero h low = low zero y refl
        behind (suc k) h low =
            up_chain cmp total x (get_or xs k y) y (Each-at (λ z. is_gt (cmp x z) ≡ false) xs up.0 k y (omega arith)) (low (suc k) y refl)

    module _ (same : (x y : X) → cmp x y ≡ Equal → x ≡ y) where
      pub replaced_is : (xs : List X) (i : ℕ) (gone come : X) → i < length xs → get_or xs i gone ≡ gone → IsAscending cmp xs → IsAscending cmp (slice_set xs i come) → slice_set xs i come ≡ removed cmp gone (inserted cmp come xs)
      replaced_is xs i gone come h is up set =
          let there : 0 < times cmp gone xs = times_there cmp gone xs i gone h (rw (is, tied_itself total gone) refl) in
          let all : 0 < times cmp gone (inserted cmp come xs) = omega (arith, times-inserted cmp gone come xs, there) in
          one_list cmp total same (slice_set xs i come) (removed cmp gone (inserted cmp come xs)) set (IsAscending-removed cmp gone (inserted cmp come xs) (IsAscending-inserted cmp total come xs up))
          (λ z. omega (arith, times_set z xs i gone come h, ap (one cmp z) is, times-inserted cmp z come xs, times-removed cmp total same z gone (inserted cmp come xs) all))

-- the same of rows that lie in place
pub row_replaced : (rows : List InPlace) (i : ℕ) (gone come : InPlace) (g r : Cells) → i < length rows → cells_at (get_or rows i gone) ≡ cells_at gone → IsAscending row_cmp (map cells_at rows)
    → (0 < i → is_gt (row_cmp (cells_at (get_or rows (i - 1) come)) (cells_at come)) ≡ false) → (i + 1 < length rows → is_gt (row_cmp (cells_at come) (cells_at (get_or rows (i + 1) come))) ≡ false)
    → cells_at gone ≡ g → cells_at come ≡ r → slice_set (map cells_at rows) i (cells_at come) ≡ removed row_cmp g (inserted row_cmp r (map cells_at rows))
row_replaced rows i gone come g r small is up low high eg er =
    let small2 : i < length (map cells_at rows) = omega (arith, small, length-map rows cells_at) in
    rw (← eg, ← er) (replaced_is row_cmp row_total row_same (map cells_at rows) i (cells_at gone) (cells_at come) small2 (get_or_map cells_at rows i gone ∙ is) up
    (set_ascending row_cmp row_total (map cells_at rows) i (cells_at come) up small2 below above))
  where
    below : (j : ℕ) (d : Cells) → suc j ≡ i → is_gt (row_cmp (get_or (map cells_at rows) j d) (cells_at come)) ≡ false
    below j d e =
        let at : get_or (map cells_at rows) j d ≡ cells_at (get_or rows (i - 1) come) = get_or_any (map cells_at rows) j d (cells_at come) (omega (arith, small, e, length-map rows cells_at)) ∙ (get_or_map cells_at rows j come ∙ ap (λ k. cells_at (get_or rows k come)) (omega (arith, e))) in
        rw at (low (omega (arith, e)))

    above : (d : Cells) → suc i < length (map cells_at rows) → is_gt (row_cmp (cells_at come) (get_or (map cells_at rows) (suc i) d)) ≡ false
    above d h =
        let at : get_or (map cells_at rows) (suc i) d ≡ cells_at (get_or rows (i + 1) come) = get_or_any (map cells_at rows) (suc i) d (cells_at come) h ∙ (get_or_map cells_at rows (suc i) come ∙ ap (λ k. cells_at (get_or rows k come)) (omega arith)) in
        rw at (high (omega (arith, h, length-map rows cells_at)))

-- what is held of the few with another in this place
pub held_set : {E : Type 0} (r : Result Held E) (few rows : List InPlace) (at : ℕ) (row : InPlace) → few ≡ rows → IfOk r (λ h. rows_in h ≡ map cells_at (slice_set few at row)) → IfOk r (λ h. rows_in h ≡ slice_set (map cells_at rows) at (cells_at row))
held_set (Ok h) few rows at row same is = is ∙ (map_set cells_at few at row ∙ ap (λ t. slice_set (map cells_at t) at (cells_at row)) same)
held_set (Err e) few rows at row same is = tt
