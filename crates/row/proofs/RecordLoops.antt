-- The loops over those records of a change whose row passes a test: with each that adds, less those again, and without each that takes away.
use Rattle.std.proofs.Common.{◌≡◌, ℕ, ◌+◌, ◌<◌, ◌≤◌, Bool, true, false, cond, List, [], ◌∷◌, ◌++◌, length, take, drop, filter, get_or, refl, ap, sym, ◌∙◌, subst, arith, add-one, drop-cons, Ordering, Result, Ok, Err, OnOk, is_err}
use Rattle.std.proofs.lemmas.List.{take_more, take_all, drop_all}
use Rattle.std.proofs.lemmas.List.Elements.{filter-append}
use Rattle.std.proofs.lemmas.Cmp.{tied_itself}
use Rattle.std.specs.declared.cmp.Ordering.TheVariants.{Less, Equal, Greater}
use Rattle.std.specs.Ordering.{is_eq}
use Rattle.row.specs.Cells.{Cells, row_cmp}
use Rattle.row.specs.CellOrder.{row_total}
use Rattle.row.specs.Bags.{times, inserted, removed}
use Rattle.row.specs.BagChanges.{plus_applied, taken_back, with_gains, with_losses, LossesFit}
use Rattle.row.specs.Changes.{gains}
use Rattle.row.specs.declared.record.Record.{Record}
use Rattle.row.specs.declared.record.Sign.{Sign}
use Rattle.row.specs.declared.record.Sign.TheVariants.{Plus, Minus}
use Rattle.row.proofs.BagChanges.{times-with_gains, first_there, LossesFit-rest}

pub ok_so : {A E : Type 0} (r : Result A E) (P : Type 0) → is_err r ≡ false → OnOk r P → P
ok_so (Ok x) P h p = p
ok_so (Err e) P h p = absurd cc

gains_append : (rows : List Cells) (xs ys : List Record) → with_gains rows (xs ++ ys) ≡ with_gains (with_gains rows xs) ys
gains_append rows [] ys = refl
gains_append rows (x ∷ xs) ys = gains_append (plus_applied x.sign x.row rows) xs ys

remove_inserted : (x : Cells) (xs : List Cells) → removed row_cmp x (inserted row_cmp x xs) ≡ xs
remove_inserted x [] = ap (λ o. cond (is_eq o) [] (x ∷ [])) (tied_itself row_total x)
remove_inserted x (y ∷ ys) = step (row_cmp x y) refl (remove_inserted x ys)
  where
    step : (o : Ordering) → row_cmp x y ≡ o → removed row_cmp x (inserted row_cmp x ys) ≡ ys → removed row_cmp x (inserted row_cmp x (y ∷ ys)) ≡ y ∷ ys
    step Less e h = rw e (ap (λ t. cond (is_eq t) (y ∷ ys) (x ∷ removed row_cmp x (y ∷ ys))) (tied_itself row_total x))
    step Equal e h = rw e (ap (λ t. cond (is_eq t) (y ∷ ys) (x ∷ removed row_cmp x (y ∷ ys))) (tied_itself row_total x))
    step Greater e h = rw e (rw e (ap (λ t. y ∷ t) h))

back_one : (b : Bool) (s : Sign) (row : Cells) (rows : List Cells) → cond b (taken_back s row (with_gains rows (cond b (record { row = row; sign = s } ∷ []) []))) (with_gains rows (cond b (record { row = row; sign = s } ∷ []) [])) ≡ rows
back_one true Plus row rows = remove_inserted row rows
back_one true Minus row rows = refl
back_one false s row rows = refl

own_gain : (s : Sign) (row : Cells) → s ≡ Plus → 0 < gains row (record { row = row; sign = s } ∷ [])
own_gain s row plus = rw (plus, tied_itself row_total row) (omega arith)

rest_fits : (b : Bool) (r : Record) (rows : List Cells) (rest : List Record) → LossesFit rows (cond b (r ∷ rest) rest) → LossesFit (with_losses rows (cond b (r ∷ []) [])) rest
rest_fits true r rows rest fit = LossesFit-rest r rows rest fit
rest_fits false r rows rest fit = fit

rest_same : (b : Bool) (r : Record) (rows : List Cells) (rest : List Record) → with_losses (with_losses rows (cond b (r ∷ []) [])) rest ≡ with_losses rows (cond b (r ∷ rest) rest)
rest_same true r rows rest = refl
rest_same false r rows rest = refl

-- where each row passes
pub picked_all : (rs : List Record) → filter (λ (r : Record). true) rs ≡ rs
picked_all [] = refl
picked_all (r ∷ rs) = ap (λ t. r ∷ t) (picked_all rs)

-- after the loops over all records
pub gains_done : (rows now : List Cells) (rs : List Record) (i : ℕ) → length rs ≤ i → now ≡ with_gains rows (filter (λ (r : Record). true) (take i rs)) → now ≡ with_gains rows rs
gains_done rows now rs i done h = h ∙ (ap (λ l. with_gains rows (filter (λ (r : Record). true) l)) (take_all i rs done) ∙ ap (with_gains rows) (picked_all rs))

pub losses_done : (rows now : List Cells) (rs : List Record) (i : ℕ) → length rs ≤ i → with_losses now (filter (λ (r : Record). true) (drop i rs)) ≡ with_losses rows (filter (λ (r : Record). true) rs) → now ≡ with_losses rows rs
losses_done rows now rs i done h = subst (λ l. with_losses now (filter (λ (r : Record). true) l) ≡ with_losses rows (filter (λ (r : Record). true) rs)) (drop_all i rs done) h ∙ ap (with_losses rows) (picked_all rs)

module _ (p : Cells → Bool) where
  -- the records whose row passes
  abbrev pub picked : List Record → List Record
  picked rs = filter (λ (r : Record). p r.row) rs

  module _ (rs : List Record) (i : ℕ) (r : Record) (small : i < length rs) (is : r ≡ get_or rs i r) where
    picked_take : picked (take (i + 1) rs) ≡ picked (take i rs) ++ picked (r ∷ [])
    picked_take = rw (take_more rs i r small, ← is) (filter-append (λ (x : Record). p x.row) (take i rs) (r ∷ []))

    picked_drop : picked (drop i rs) ≡ picked (r ∷ drop (i + 1) rs)
    picked_drop = let e : drop i rs ≡ r ∷ drop (i + 1) rs = rw (add-one i, drop-cons rs i r small, ← is) refl in ap picked e

    -- one record more
    pub gains_next : (rows : List Cells) → with_gains rows (picked (take (i + 1) rs)) ≡ with_gains (with_gains rows (picked (take i rs))) (picked (r ∷ []))
    gains_next rows = ap (with_gains rows) picked_take ∙ gains_append rows (picked (take i rs)) (picked (r ∷ []))

    -- one record less again
    pub gains_back : (rows was : List Cells) (j : ℕ) → j ≡ i + 1 → was ≡ with_gains rows (picked (take j rs)) → cond (p r.row) (taken_back r.sign r.row was) was ≡ with_gains rows (picked (take i rs))
    gains_back rows was j next before =
        ap (λ w. cond (p r.row) (taken_back r.sign r.row w) w) (before ∙ (ap (λ n. with_gains rows (picked (take n rs))) next ∙ gains_next rows))
        ∙ back_one (p r.row) r.sign r.row (with_gains rows (picked (take i rs)))

    -- what was added is there
    pub gain_there : (rows was : List Cells) (j : ℕ) → j ≡ i + 1 → was ≡ with_gains rows (picked (take j rs)) → p r.row ≡ true → r.sign ≡ Plus → 0 < times row_cmp r.row was
    gain_there rows was j next before own plus =
        let mid = with_gains rows (picked (take i rs)) in
        let e : was ≡ with_gains mid (r ∷ []) = before ∙ (ap (λ n. with_gains rows (picked (take n rs))) next ∙ (gains_next rows ∙ ap (λ b. with_gains mid (cond b (r ∷ []) [])) own)) in
        rw e (omega (arith, times-with_gains r.row mid (r ∷ []), own_gain r.sign r.row plus))

    -- what is taken away next is there
    pub loss_there : (rows : List Cells) → LossesFit rows (picked (drop i rs)) → p r.row ≡ true → r.sign ≡ Minus → 0 < times row_cmp r.row rows
    loss_there rows fit own minus =
        let e : picked (drop i rs) ≡ r ∷ picked (drop (i + 1) rs) = picked_drop ∙ ap (λ b. cond b (r ∷ picked (drop (i + 1) rs)) (picked (drop (i + 1) rs))) own in
        first_there r.sign r.row rows (picked (drop (i + 1) rs)) minus (subst (LossesFit rows) e fit)

    pub loss_fits : (rows : List Cells) → LossesFit rows (picked (drop i rs)) → LossesFit (with_losses rows (picked (r ∷ []))) (picked (drop (i + 1) rs))
    loss_fits rows fit = rest_fits (p r.row) r rows (picked (drop (i + 1) rs)) (subst (LossesFit rows) picked_drop fit)

    pub loss_same : (rows : List Cells) → with_losses (with_losses rows (picked (r ∷ []))) (picked (drop (i + 1) rs)) ≡ with_losses rows (picked (drop i rs))
    loss_same rows = rest_same (p r.row) r rows (picked (drop (i + 1) rs)) ∙ ap (with_losses rows) (sym picked_drop)
