-- Lists of values in order, each once: one is told by what it has.
use Rattle.std.proofs.Common.{◌≡◌, ℕ, Bool, true, false, cond, not, ◌||◌, ◌&&◌, List, [], ◌∷◌, filter, refl, ap, sym, ◌∙◌, subst, true≢false}
use Rattle.std.specs.List.{list_any}
use Rattle.std.specs.declared.cmp.Ordering.{Ordering}
use Rattle.std.specs.declared.cmp.Ordering.TheVariants.{Less, Equal, Greater}
use Rattle.std.specs.Ordering.{is_eq, is_gt, ordering_reverse}
use Rattle.row.specs.Cells.{Datum, Cells, datum_cmp, same, cell_at}
use Rattle.row.specs.CellOrder.{datum_total, datum_same}
use Rattle.row.specs.Bags.{inserted, sorted, Each}
use Rattle.row.proofs.Filtered.{Each-filter}
use Rattle.row.proofs.Shards.{same_is, same_self}
use Rattle.plan.specs.Outputs.{keys_of}
use Rattle.packet.specs.Keys.{is_among, Ascends}
use Rattle.row.proofs.Keys.{same_flip}

abbrev Above : Datum → List Datum → Type 0
Above x ys = Each (λ y. datum_cmp x y ≡ Less) ys

apart : (x y : Datum) → datum_cmp x y ≡ Less → same y x ≡ false
apart x y h = same_flip y x ∙ ap is_eq h

-- what is below all is not there
absent : (x : Datum) (xs : List Datum) → Above x xs → is_among xs x ≡ false
absent x [] h = refl
absent x (y ∷ ys) h = rw (apart x y h.0) (absent x ys h.1)

above_more : (x y : Datum) (ys : List Datum) → datum_cmp x y ≡ Less → Above y ys → Above x ys
above_more x y [] h a = tt
above_more x y (z ∷ zs) h a = (datum_total.trans x y z h a.0, above_more x y zs h a.1)

below : (x y : Datum) (ys : List Datum) → datum_cmp x y ≡ Less → Above y ys → is_among (y ∷ ys) x ≡ false
below x y ys h a = absent x (y ∷ ys) (h, above_more x y ys h a)

-- two that have the same values are one
pub one_set : (xs ys : List Datum) → Ascends xs → Ascends ys → ((k : Datum) → is_among xs k ≡ is_among ys k) → xs ≡ ys
one_set [] [] a b h = refl
one_set [] (y ∷ ys) a b h = absurd (true≢false (sym (h y ∙ rw (same_self y) refl)))
one_set (x ∷ xs) [] a b h = absurd (true≢false (sym (sym (h x) ∙ rw (same_self x) refl)))
one_set (x ∷ xs) (y ∷ ys) a b h = step (datum_cmp x y) refl (λ r. one_set xs ys a.1 b.1 r)
  where
    rest : x ≡ y → (k : Datum) → (c : Bool) → same x k ≡ c → is_among xs k ≡ is_among ys k
    rest e k true s =
        let i : x ≡ k = same_is x k s in
        subst (λ z. is_among xs z ≡ false) i (absent x xs a.0) ∙ sym (subst (λ z. is_among ys z ≡ false) (sym e ∙ i) (absent y ys b.0))
    rest e k false s = sym (ap (λ c. c || is_among xs k) s) ∙ (h k ∙ ap (λ c. c || is_among ys k) (ap (λ z. same z k) (sym e) ∙ s))

    step : (o : Ordering) → datum_cmp x y ≡ o → (((k : Datum) → is_among xs k ≡ is_among ys k) → xs ≡ ys) → (x ∷ xs) ≡ (y ∷ ys)
    step Less e more = absurd (true≢false (sym (ap (λ c. c || is_among xs x) (same_self x)) ∙ (h x ∙ below x y ys e b.0)))
    step Equal e more =
        let i : x ≡ y = datum_same x y e in
        rw (i, more (λ k. rest i k (same x k) refl)) refl
    step Greater e more = absurd (true≢false (sym (ap (λ c. c || is_among ys y) (same_self y)) ∙ (sym (h y) ∙ below y x xs (datum_total.antisymm y x ∙ ap ordering_reverse e) a.0)))

-- ---- in order
or_swap : (a b c : Bool) → (a || (b || c)) ≡ (b || (a || c))
or_swap true true c = refl
or_swap true false c = refl
or_swap false true c = refl
or_swap false false c = refl

above_inserted : (x y : Datum) (ys : List Datum) → datum_cmp y x ≡ Less → Above y ys → Above y (inserted datum_cmp x ys)
above_inserted x y [] h a = (h, tt)
above_inserted x y (z ∷ zs) h a = step (is_gt (datum_cmp x z)) (above_inserted x y zs h a.1)
  where
    step : (b : Bool) → Above y (inserted datum_cmp x zs) → Above y (cond b (z ∷ inserted datum_cmp x zs) (x ∷ z ∷ zs))
    step true r = (a.0, r)
    step false r = (h, a)

ascends_inserted : (x : Datum) (ys : List Datum) → Ascends ys → is_among ys x ≡ false → Ascends (inserted datum_cmp x ys)
ascends_inserted x [] a h = (tt, tt)
ascends_inserted x (y ∷ ys) a h = step (datum_cmp x y) refl (same y x) refl h (λ n. ascends_inserted x ys a.1 n)
  where
    step : (o : Ordering) → datum_cmp x y ≡ o → (b : Bool) → same y x ≡ b → (b || is_among ys x) ≡ false → (is_among ys x ≡ false → Ascends (inserted datum_cmp x ys)) → Ascends (cond (is_gt o) (y ∷ inserted datum_cmp x ys) (x ∷ y ∷ ys))
    step Less e b s n more = ((e, above_more x y ys e a.0), a)
    step Equal e true s n more = absurd (true≢false n)
    step Equal e false s n more = absurd (true≢false (sym (same_flip y x ∙ ap is_eq e) ∙ s))
    step Greater e true s n more = absurd (true≢false n)
    step Greater e false s n more = (above_inserted x y ys (datum_total.antisymm y x ∙ ap ordering_reverse e) a.0, more n)

among_inserted : (x : Datum) (ys : List Datum) (k : Datum) → is_among (inserted datum_cmp x ys) k ≡ (same x k || is_among ys k)
among_inserted x [] k = refl
among_inserted x (y ∷ ys) k = step (is_gt (datum_cmp x y)) (among_inserted x ys k)
  where
    step : (b : Bool) → is_among (inserted datum_cmp x ys) k ≡ (same x k || is_among ys k) → is_among (cond b (y ∷ inserted datum_cmp x ys) (x ∷ y ∷ ys)) k ≡ (same x k || (same y k || is_among ys k))
    step true r = ap (λ c. same y k || c) r ∙ or_swap (same y k) (same x k) (is_among ys k)
    step false r = refl

pub among_sorted : (xs : List Datum) (k : Datum) → is_among (sorted datum_cmp xs) k ≡ is_among xs k
among_sorted [] k = refl
among_sorted (x ∷ xs) k = among_inserted x (sorted datum_cmp xs) k ∙ ap (λ c. same x k || c) (among_sorted xs k)

pub among_filter : (p : Datum → Bool) (xs : List Datum) (k : Datum) → is_among (filter p xs) k ≡ (p k && is_among xs k)
among_filter p [] k = none (p k)
  where
    none : (b : Bool) → false ≡ (b && false)
    none true = refl
    none false = refl
among_filter p (x ∷ xs) k = step (among_filter p xs k) (p x) refl (same x k) refl
  where
    step : is_among (filter p xs) k ≡ (p k && is_among xs k) → (b : Bool) → p x ≡ b → (c : Bool) → same x k ≡ c → is_among (cond b (x ∷ filter p xs) (filter p xs)) k ≡ (p k && (c || is_among xs k))
    step rest true e true s = rw s (sym (rw (sym (ap p (same_is x k s)) ∙ e) refl))
    step rest true e false s = rw s rest
    step rest false e true s = rest ∙ rw (sym (ap p (same_is x k s)) ∙ e) refl
    step rest false e false s = rest

-- each once
abbrev Singles : List Datum → Type 0
Singles [] = Unit {0}
Singles (y ∷ ys) = (is_among ys y ≡ false) × Singles ys

no_more : (b : Bool) → (b && false) ≡ false
no_more true = refl
no_more false = refl

singles_filter : (p : Datum → Bool) (ys : List Datum) → Singles ys → Singles (filter p ys)
singles_filter p [] h = tt
singles_filter p (y ∷ ys) h = step (p y) (singles_filter p ys h.1)
  where
    step : (b : Bool) → Singles (filter p ys) → Singles (cond b (y ∷ filter p ys) (filter p ys))
    step true r = (among_filter p ys y ∙ (ap (λ c. p y && c) h.0 ∙ no_more (p y)), r)
    step false r = r

ascends_sorted : (ys : List Datum) → Singles ys → Ascends (sorted datum_cmp ys)
ascends_sorted [] h = tt
ascends_sorted (y ∷ ys) h = ascends_inserted y (sorted datum_cmp ys) (ascends_sorted ys h.1) (among_sorted ys y ∙ h.0)

pub ascends_filter : (p : Datum → Bool) (ys : List Datum) → Ascends ys → Ascends (filter p ys)
ascends_filter p [] h = tt
ascends_filter p (y ∷ ys) h = step (p y) (ascends_filter p ys h.1)
  where
    step : (b : Bool) → Ascends (filter p ys) → Ascends (cond b (y ∷ filter p ys) (filter p ys))
    step true r = (Each-filter (λ z. datum_cmp y z ≡ Less) p ys h.0, r)
    step false r = r

-- ---- the values of a column
-- the other values
abbrev others : Datum → Datum → Bool
others y x = not (same x y)

singles_keys : (c : ℕ) (rows : List Cells) → Singles (keys_of c rows)
singles_keys c [] = tt
singles_keys c (r ∷ rows) =
    let y = cell_at r c in
    (among_filter (others y) (keys_of c rows) y ∙ ap (λ b. not b && is_among (keys_of c rows) y) (same_self y), singles_filter (others y) (keys_of c rows) (singles_keys c rows))

pub ascends_keys : (c : ℕ) (rows : List Cells) → Ascends (sorted datum_cmp (keys_of c rows))
ascends_keys c rows = ascends_sorted (keys_of c rows) (singles_keys c rows)

-- a row has it there
pub among_keys : (c : ℕ) (rows : List Cells) (k : Datum) → is_among (keys_of c rows) k ≡ list_any (λ r. same (cell_at r c) k) rows
among_keys c [] k = refl
among_keys c (r ∷ rows) k = step (same (cell_at r c) k) (among_filter (others (cell_at r c)) (keys_of c rows) k ∙ ap (λ b. not b && is_among (keys_of c rows) k) (same_flip k (cell_at r c))) (among_keys c rows k)
  where
    step : (b : Bool) → is_among (filter (others (cell_at r c)) (keys_of c rows)) k ≡ (not b && is_among (keys_of c rows) k) → is_among (keys_of c rows) k ≡ list_any (λ r. same (cell_at r c) k) rows
        → (b || is_among (filter (others (cell_at r c)) (keys_of c rows)) k) ≡ (b || list_any (λ r. same (cell_at r c) k) rows)
    step true h rest = refl
    step false h rest = h ∙ rest
