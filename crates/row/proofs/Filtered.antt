-- The rows that pass a test, after records.
use Rattle.std.proofs.Common.{◌≡◌, ℕ, ◌<◌, nat_lt, Bool, true, false, cond, List, [], ◌∷◌, filter, refl, ap, sym, ◌∙◌, arith, Ordering}
use Rattle.std.specs.declared.cmp.Ordering.TheVariants.{Less, Equal, Greater}
use Rattle.std.specs.Ordering.{is_eq, is_gt}
use Rattle.row.specs.Cells.{Cells, row_cmp}
use Rattle.row.specs.CellOrder.{row_total, row_same}
use Rattle.row.specs.Bags.{Each, one, times, inserted, removed, IsAscending}
use Rattle.row.proofs.BagLemmas.{times-inserted, IsAscending-inserted, one_list, times-filter_kept, times-filter_dropped}
use Rattle.std.proofs.lemmas.Bool.Decides.{nat_tests}
use Rattle.row.proofs.RecordLaws.{apart_rows, true_false, false_true}

-- ---- elements of any kind that pass a test
pub Each-filtered : {X : Type 0} (p : X → Bool) (xs : List X) → Each (λ x. p x ≡ true) (filter p xs)
Each-filtered p [] = tt
Each-filtered p (x ∷ xs) = step (p x) refl (Each-filtered p xs)
  where
    step : (b : Bool) → p x ≡ b → Each (λ z. p z ≡ true) (filter p xs) → Each (λ z. p z ≡ true) (cond b (x ∷ filter p xs) (filter p xs))
    step true e k = (e, k)
    step false e k = k

pub Each-filter : {X : Type 0} (P : X → Type 0) (p : X → Bool) (xs : List X) → Each P xs → Each P (filter p xs)
Each-filter P p [] h = tt
Each-filter P p (x ∷ xs) h = step (p x) (Each-filter P p xs h.1)
  where
    step : (b : Bool) → Each P (filter p xs) → Each P (cond b (x ∷ filter p xs) (filter p xs))
    step true k = (h.0, k)
    step false k = k

-- what follows of each from two facts of it
pub Each-both : {X : Type 0} (P Q R : X → Type 0) (xs : List X) → ((x : X) → P x → Q x → R x) → Each P xs → Each Q xs → Each R xs
Each-both P Q R [] f h k = tt
Each-both P Q R (x ∷ xs) f h k = (f x h.0 k.0, Each-both P Q R xs f h.1 k.1)

-- a test that holds of none but those that pass another
pub filter-kept_of : {X : Type 0} (q p : X → Bool) (xs : List X) → ((x : X) → q x ≡ true → p x ≡ true) → filter q (filter p xs) ≡ filter q xs
filter-kept_of q p [] h = refl
filter-kept_of q p (x ∷ xs) h = step (p x) refl (q x) refl (filter-kept_of q p xs h)
  where
    step : (a : Bool) → p x ≡ a → (b : Bool) → q x ≡ b → filter q (filter p xs) ≡ filter q xs → filter q (cond a (x ∷ filter p xs) (filter p xs)) ≡ cond b (x ∷ filter q xs) (filter q xs)
    step true e true f k = rw f (ap (λ t. x ∷ t) k)
    step true e false f k = rw f k
    step false e true f k = absurd (true_false (sym (h x f) ∙ e))
    step false e false f k = k

pub IsAscending-filter : (p : Cells → Bool) (rows : List Cells) → IsAscending row_cmp rows → IsAscending row_cmp (filter p rows)
IsAscending-filter p [] h = tt
IsAscending-filter p (r ∷ rows) h = step (p r) (IsAscending-filter p rows h.1)
  where
    step : (b : Bool) → IsAscending row_cmp (filter p rows) → IsAscending row_cmp (cond b (r ∷ filter p rows) (filter p rows))
    step true k = (Each-filter (λ z. is_gt (row_cmp r z) ≡ false) p rows h.0, k)
    step false k = k

-- a row that is the other passes as it does
pub found_same : (p : Cells → Bool) (z row : Cells) → 0 < one row_cmp z row → p row ≡ true → p z ≡ true
found_same p z row there own = step (row_cmp z row) refl there
  where
    step : (o : Ordering) → row_cmp z row ≡ o → 0 < cond (is_eq o) 1 0 → p z ≡ true
    step Less e h = absurd (omega arith)
    step Equal e h = ap p (row_same z row e) ∙ own
    step Greater e h = absurd (omega arith)

module _ (p : Cells → Bool) where
  -- one row more, in rows in order
  pub filter-inserted : (row : Cells) (rows : List Cells) → IsAscending row_cmp rows → filter p (inserted row_cmp row rows) ≡ cond (p row) (inserted row_cmp row (filter p rows)) (filter p rows)
  filter-inserted row rows up = step (p row) refl
    where
      up_more : IsAscending row_cmp (filter p (inserted row_cmp row rows))
      up_more = IsAscending-filter p (inserted row_cmp row rows) (IsAscending-inserted row_cmp row_total row rows up)

      up_kept : IsAscending row_cmp (filter p rows)
      up_kept = IsAscending-filter p rows up

      with_it : p row ≡ true → (z : Cells) (c : Bool) → p z ≡ c → times row_cmp z (filter p (inserted row_cmp row rows)) ≡ times row_cmp z (inserted row_cmp row (filter p rows))
      with_it e z true f =
          omega (arith, times-filter_kept row_cmp row_total row_same p z (inserted row_cmp row rows) f, times-inserted row_cmp z row rows, times-inserted row_cmp z row (filter p rows), times-filter_kept row_cmp row_total row_same p z rows f)
      with_it e z false f =
          omega (
            arith,
            times-filter_dropped row_cmp row_total row_same p z (inserted row_cmp row rows) f,
            times-inserted row_cmp z row (filter p rows),
            times-filter_dropped row_cmp row_total row_same p z rows f,
            apart_rows p z row false true f e false_true,
          )

      without_it : p row ≡ false → (z : Cells) (c : Bool) → p z ≡ c → times row_cmp z (filter p (inserted row_cmp row rows)) ≡ times row_cmp z (filter p rows)
      without_it e z true f =
          omega (
            arith,
            times-filter_kept row_cmp row_total row_same p z (inserted row_cmp row rows) f,
            times-inserted row_cmp z row rows,
            times-filter_kept row_cmp row_total row_same p z rows f,
            apart_rows p z row true false f e true_false,
          )
      without_it e z false f = omega (arith, times-filter_dropped row_cmp row_total row_same p z (inserted row_cmp row rows) f, times-filter_dropped row_cmp row_total row_same p z rows f)

      step : (b : Bool) → p row ≡ b → filter p (inserted row_cmp row rows) ≡ cond b (inserted row_cmp row (filter p rows)) (filter p rows)
      step true e = one_list row_cmp row_total row_same _ _ up_more (IsAscending-inserted row_cmp row_total row (filter p rows) up_kept) (λ z. with_it e z (p z) refl)
      step false e = one_list row_cmp row_total row_same _ _ up_more up_kept (λ z. without_it e z (p z) refl)

  -- one row less
  pub filter-removed : (row : Cells) (rows : List Cells) → filter p (removed row_cmp row rows) ≡ cond (p row) (removed row_cmp row (filter p rows)) (filter p rows)
  filter-removed row [] = none (p row)
    where
      none : (b : Bool) → filter p [] ≡ cond b [] []
      none true = refl
      none false = refl
  filter-removed row (y ∷ ys) = step (row_cmp row y) refl (p row) refl (p y) refl (filter-removed row ys)
    where
      step : (o : Ordering) → row_cmp row y ≡ o → (b : Bool) → p row ≡ b → (c : Bool) → p y ≡ c → filter p (removed row_cmp row ys) ≡ cond b (removed row_cmp row (filter p ys)) (filter p ys)
          → filter p (cond (is_eq o) ys (y ∷ removed row_cmp row ys)) ≡ cond b (removed row_cmp row (cond c (y ∷ filter p ys) (filter p ys))) (cond c (y ∷ filter p ys) (filter p ys))
      step Less e true eb true ec h = rw (ec, e) (ap (λ t. y ∷ t) h)
      step Less e true eb false ec h = rw ec h
      step Less e false eb true ec h = rw ec (ap (λ t. y ∷ t) h)
      step Less e false eb false ec h = rw ec h
      step Equal e true eb true ec h = rw e refl
      step Equal e true eb false ec h = let q = ap p (row_same row y e) in cc
      step Equal e false eb true ec h = let q = ap p (row_same row y e) in cc
      step Equal e false eb false ec h = refl
      step Greater e true eb true ec h = rw (ec, e) (ap (λ t. y ∷ t) h)
      step Greater e true eb false ec h = rw ec h
      step Greater e false eb true ec h = rw ec (ap (λ t. y ∷ t) h)
      step Greater e false eb false ec h = rw ec h

-- what a test of less shows
pub lt_of : (a b : ℕ) → nat_lt a b ≡ true → a < b
lt_of a b h = grind (arith, nat_tests)
