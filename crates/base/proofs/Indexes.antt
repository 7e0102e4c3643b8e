-- Rows that are found by a column, with a row more or less.
use Rattle.std.proofs.Common.{◌≡◌, ℕ, ◌+◌, ◌<◌, ◌≤◌, nat_lt, Bool, true, false, cond, List, [], ◌∷◌, All, take, drop, get_or, suc, zero, add-one, length, filter, Option, Some, None, IfSome, refl, ap, sym, ◌∙◌, arith, subst, Ordering}
use Rattle.std.specs.Prelude.{slice_set}
use Rattle.std.proofs.lemmas.List.{take_all}
use Rattle.std.proofs.lemmas.List.Elements.{All-cons, All-head, All-tail}
use Rattle.std.proofs.lemmas.Bool.Decides.{nat_tests}
use Rattle.std.specs.declared.cmp.Ordering.TheVariants.{Less, Equal, Greater}
use Rattle.std.specs.Ordering.{is_eq}
use Rattle.row.specs.Cells.{Datum, Cells, has, row_cmp}
use Rattle.row.specs.CellOrder.{row_total, row_same}
use Rattle.row.specs.Bags.{one, times, inserted, removed, IsAlike, IsAscending}
use Rattle.row.specs.BagChanges.{LossesFit}
use Rattle.row.specs.Groups.{RowsBy}
use Rattle.row.specs.declared.record.Record.{Record}
use Rattle.row.specs.declared.record.Sign.TheVariants.{Minus}
use Rattle.row.proofs.BagChanges.{times-with_losses}
use Rattle.row.proofs.BagLemmas.{times-inserted, times-sorted, IsAscending-sorted, one_itself, one_list}
use Rattle.row.proofs.Filtered.{IsAscending-filter}
use Rattle.row.proofs.Keys.{has_wide}
use Rattle.row.proofs.Alike.{filter_alike}
use Rattle.base.specs.declared.index.Index.{Index}
use Rattle.base.specs.declared.part.Part.{Part}
use Rattle.base.specs.Parts.{is_in, found}
use Rattle.base.specs.Indexed.{reaching, IsOf, with_waiting, IsIndex, AreIndexes}

lt_true : (a b : ℕ) → a < b → nat_lt a b ≡ true
lt_true a b h = grind (arith, nat_tests)

-- ---- a row more
pub added_wide : (old new : RowsBy) (row : Cells) (others : List Cells) → old.column < length row → new ≡ record old { rows = inserted row_cmp row old.rows } → IsOf old others → IsOf new (row ∷ others)
added_wide old new row others reach is h =
    subst (λ g. IsOf g (row ∷ others)) (sym is) (step (nat_lt old.column (length row)) (lt_true old.column (length row) reach))
  where
    step : (b : Bool) → b ≡ true → IsAlike row_cmp (inserted row_cmp row old.rows) (cond b (row ∷ reaching old.column others) (reaching old.column others))
    step true e = record { each = λ z. times-inserted row_cmp z row old.rows ∙ ap (λ n. one row_cmp z row + n) (h.each z) }
    step false e = absurd cc

-- ---- a row less
pub taken_there : (g : RowsBy) (row : Cells) (others : List Cells) → g.column < length row → IsOf g (row ∷ others) → 0 < times row_cmp row g.rows
taken_there g row others reach h =
    let e : times row_cmp row g.rows ≡ times row_cmp row (cond (nat_lt g.column (length row)) (row ∷ reaching g.column others) (reaching g.column others)) = h.each row in
    let k = rw (lt_true g.column (length row) reach) at e in
    omega (arith, k, one_itself row_cmp row_total row)

pub taken_wide : (old new : RowsBy) (row : Cells) (others : List Cells) → old.column < length row → new ≡ record old { rows = removed row_cmp row old.rows } → IsOf old (row ∷ others) → IsOf new others
taken_wide old new row others reach is h = rw is (record { each = each })
  where
    before : (z : Cells) → times row_cmp z old.rows ≡ one row_cmp z row + times row_cmp z (reaching old.column others)
    before z =
        let e : times row_cmp z old.rows ≡ times row_cmp z (cond (nat_lt old.column (length row)) (row ∷ reaching old.column others) (reaching old.column others)) = h.each z in
        rw (lt_true old.column (length row) reach) at e

    gone : List Record
    gone = record { row = row; sign = Minus } ∷ []

    fit : LossesFit old.rows gone
    fit = record { enough = λ z. omega (arith, before z) }

    each : (z : Cells) → times row_cmp z (removed row_cmp row old.rows) ≡ times row_cmp z (reaching old.column others)
    each z = omega (arith, before z, times-with_losses z old.rows gone fit)

-- ---- the order of the rows decides nothing
pub of_swapped : (g : RowsBy) (a b : Cells) (others : List Cells) → IsOf g (a ∷ b ∷ others) → IsOf g (b ∷ a ∷ others)
of_swapped g a b others h = step (nat_lt g.column (length a)) (nat_lt g.column (length b)) h
  where
    rest : List Cells
    rest = reaching g.column others

    step : (m n : Bool) → IsAlike row_cmp g.rows (cond m (a ∷ cond n (b ∷ rest) rest) (cond n (b ∷ rest) rest)) → IsAlike row_cmp g.rows (cond n (b ∷ cond m (a ∷ rest) rest) (cond m (a ∷ rest) rest))
    step true true k = record { each = λ z. omega (arith, k.each z) }
    step true false k = k
    step false true k = k
    step false false k = k

pub of_alike : (g : RowsBy) (xs ys : List Cells) → IsAlike row_cmp xs ys → IsOf g xs → IsOf g ys
of_alike g xs ys h k =
    let l = filter_alike row_cmp row_total row_same (λ r. nat_lt g.column (length r)) xs ys h in
    record { each = λ z. k.each z ∙ l.each z }

cons_alike : (row : Cells) (xs ys : List Cells) → IsAlike row_cmp xs ys → IsAlike row_cmp (row ∷ xs) (row ∷ ys)
cons_alike row xs ys h = record { each = λ z. ap (λ n. one row_cmp z row + n) (h.each z) }

waiting_alike : (waiting : Option Cells) (xs ys : List Cells) → IsAlike row_cmp xs ys → IsAlike row_cmp (with_waiting waiting xs) (with_waiting waiting ys)
waiting_alike None xs ys h = h
waiting_alike (Some row) xs ys h = cons_alike row xs ys h

index_alike : (xs ys : List Cells) → IsAlike row_cmp xs ys → (index : Index) → IsIndex xs index → IsIndex ys index
index_alike xs ys h index k = step index.rows k
  where
    step : (rows : Option RowsBy) → IfSome rows (λ g. IsOf g (with_waiting index.waiting xs)) → IfSome rows (λ g. IsOf g (with_waiting index.waiting ys))
    step None m = tt
    step (Some g) m = of_alike g _ _ (waiting_alike index.waiting xs ys h) m

pub indexes_alike : (xs ys : List Cells) → IsAlike row_cmp xs ys → (indexes : List Index) → AreIndexes xs indexes → AreIndexes ys indexes
indexes_alike xs ys h indexes k = λ i d small. index_alike xs ys h (get_or indexes i d) (k i d small)

-- ---- one index after another
-- the first so many elements are Q, and the rest is P
abbrev pub Mixed : {X : Type 0} → (X → Type 0) → (X → Type 0) → ℕ → List X → Type 0
Mixed P Q i xs = All Q (take i xs) × All P (drop i xs)

module _ {X : Type 0} (P Q : X → Type 0) where
  mixed_step : (xs : List X) (i : ℕ) (x y : X) → i < length xs → x ≡ get_or xs i x → (P x → Q y) → Mixed P Q i xs → Mixed P Q (suc i) (slice_set xs i y)
  mixed_step [] i x y small is f h = absurd (omega (arith, small))
  mixed_step (a ∷ xs) zero x y small is f h =
      let none : All Q [] = λ k d less. absurd (omega (arith, less)) in
      (All-cons Q y [] (f (subst P (sym is) (All-head P a xs h.1))) none, All-tail P a xs h.1)
  mixed_step (a ∷ xs) (suc i) x y small is f h =
      let k = mixed_step xs i x y (omega (arith, small)) is f (All-tail Q a (take i xs) h.0, h.1) in
      (All-cons Q a (take (suc i) (slice_set xs i y)) (All-head Q a (take i xs) h.0) k.0, k.1)

  pub mixed_next : (xs : List X) (i : ℕ) (x y : X) → i < length xs → x ≡ get_or xs i x → (P x → Q y) → Mixed P Q i xs → Mixed P Q (i + 1) (slice_set xs i y)
  mixed_next xs i x y small is f h = rw (add-one i) (mixed_step xs i x y small is f h)

  pub mixed_at : (xs : List X) (i : ℕ) (x : X) → i < length xs → x ≡ get_or xs i x → Mixed P Q i xs → P x
  mixed_at [] i x small is h = absurd (omega (arith, small))
  mixed_at (a ∷ xs) zero x small is h = subst P (sym is) (All-head P a xs h.1)
  mixed_at (a ∷ xs) (suc i) x small is h = mixed_at xs i x (omega (arith, small)) is (All-tail Q a (take i xs) h.0, h.1)

  pub mixed_last : (xs : List X) (i : ℕ) → length xs ≤ i → Mixed P Q i xs → All Q xs
  mixed_last xs i done h = subst (All Q) (take_all i xs done) h.0

-- ---- a row that waits
pub waiting_out : (g : RowsBy) (waiting : Option Cells) (row : Cells) (rows : List Cells) → IsOf g (with_waiting waiting (row ∷ rows)) → IsOf g (row ∷ with_waiting waiting rows)
waiting_out g None row rows h = h
waiting_out g (Some other) row rows h = of_swapped g other row rows h

-- the row that waited has come
pub settled : (found : Option RowsBy) (was now : Option Cells) (other row : Cells) (rows : List Cells) → was ≡ Some other → is_eq (row_cmp other row) ≡ true → now ≡ None
    → IfSome found (λ g. IsOf g (with_waiting was rows)) → IfSome found (λ g. IsOf g (with_waiting now (row ∷ rows)))
settled found was now other row rows is same none h =
    subst (λ w. IfSome found (λ g. IsOf g (with_waiting w (row ∷ rows)))) (sym none) (subst (λ w. IfSome found (λ g. IsOf g (with_waiting w rows))) (is ∙ ap Some (one_row other row same)) h)
  where
    one_row : (a b : Cells) → is_eq (row_cmp a b) ≡ true → a ≡ b
    one_row a b e = step (row_cmp a b) refl e
      where
        step : (o : Ordering) → row_cmp a b ≡ o → is_eq o ≡ true → a ≡ b
        step Less f k = absurd cc
        step Equal f k = row_same a b f
        step Greater f k = absurd cc

-- a row more, beside the one that waits
pub expected : (g more : RowsBy) (was : Option Cells) (other row : Cells) (rows : List Cells) → was ≡ Some other → IsOf g (with_waiting was rows) → ((others : List Cells) → IsOf g others → IsOf more (row ∷ others))
    → IsOf more (other ∷ row ∷ rows)
expected g more was other row rows is h add = of_swapped more row other rows (add (other ∷ rows) (subst (λ w. IsOf g (with_waiting w rows)) is h))

-- ---- what an index finds
-- a row with a value in the column has the column
has_reaching : (column : ℕ) (d : Datum) (rows : List Cells) → filter (has column d) (reaching column rows) ≡ filter (has column d) rows
has_reaching column d [] = refl
has_reaching column d (r ∷ rows) = step (nat_lt column (length r)) refl (has column d r) refl (has_reaching column d rows)
  where
    step : (a : Bool) → nat_lt column (length r) ≡ a → (b : Bool) → has column d r ≡ b → filter (has column d) (reaching column rows) ≡ filter (has column d) rows
        → filter (has column d) (cond a (r ∷ reaching column rows) (reaching column rows)) ≡ cond b (r ∷ filter (has column d) rows) (filter (has column d) rows)
    step true e true f h = rw f (ap (λ t. r ∷ t) h)
    step true e false f h = rw f h
    step false e true f h = let k = sym e ∙ lt_true column (length r) (has_wide column d r f) in absurd cc
    step false e false f h = h

-- two tests in either order
both_ways : (p q : Cells → Bool) (rows : List Cells) → filter p (filter q rows) ≡ filter q (filter p rows)
both_ways p q [] = refl
both_ways p q (r ∷ rows) = step (p r) refl (q r) refl (both_ways p q rows)
  where
    step : (a : Bool) → p r ≡ a → (b : Bool) → q r ≡ b → filter p (filter q rows) ≡ filter q (filter p rows)
        → filter p (cond b (r ∷ filter q rows) (filter q rows)) ≡ filter q (cond a (r ∷ filter p rows) (filter p rows))
    step true e true f h = rw (e, f) (ap (λ t. r ∷ t) h)
    step true e false f h = rw f h
    step false e true f h = rw e h
    step false e false f h = h

-- those of the part, of the rows that are found, are what is found in all rows
pub found_by : (g : RowsBy) (column : ℕ) (d : Datum) (part : Part) (rows : List Cells) → IsAscending row_cmp g.rows → g.column ≡ column → IsOf g rows
    → filter (is_in part) (filter (has g.column d) g.rows) ≡ found column d part rows
found_by g column d part rows up is h =
    one_list row_cmp row_total row_same _ _ (IsAscending-filter (is_in part) _ (IsAscending-filter (has g.column d) g.rows up)) (IsAscending-sorted row_cmp row_total (filter (has column d) (filter (is_in part) rows)))
    (λ z. like.each z ∙ (ap (times row_cmp z) same ∙ sym (times-sorted row_cmp z (filter (has column d) (filter (is_in part) rows)))))
  where
    like : IsAlike row_cmp (filter (is_in part) (filter (has g.column d) g.rows)) (filter (is_in part) (filter (has g.column d) (reaching g.column rows)))
    like = filter_alike row_cmp row_total row_same (is_in part) _ _ (filter_alike row_cmp row_total row_same (has g.column d) _ _ h)

    same : filter (is_in part) (filter (has g.column d) (reaching g.column rows)) ≡ filter (has column d) (filter (is_in part) rows)
    same = ap (filter (is_in part)) (has_reaching g.column d rows) ∙ (both_ways (is_in part) (has g.column d) rows ∙ ap (λ c. filter (has c d) (filter (is_in part) rows)) is)
