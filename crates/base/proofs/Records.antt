-- The records that an entry brings: how many, and what they change.
use Rattle.std.proofs.Common.{◌≡◌, ℕ, ◌+◌, Bool, true, false, not, cond, List, [], ◌∷◌, ◌++◌, map, filter, length, Option, Some, None, IfSome, Bor, refl, ap, sym, ◌∙◌, arith, Result, Ok, Err, IfOk}
use Rattle.std.specs.Prelude.{⊤}
use Rattle.std.specs.List.{IsDistinct}
use Rattle.std.specs.Option.{option_copied}
use Rattle.std.specs.Map.{keys_of, values_of, lookup}
use Rattle.std.proofs.lemmas.List.Elements.{All-head, All-tail}
use Rattle.std.proofs.lemmas.Map.Keys.{IsDistinct-tail}
use Rattle.std.proofs.lemmas.Map.{NonePasses}
use Rattle.std.proofs.lemmas.Map.Entries.{none_past_head}
use Rattle.row.specs.Cells.{Datum, Cells, cell_at, datum_of, has, row_cmp}
use Rattle.row.specs.CellOrder.{row_total, row_same}
use Rattle.row.specs.Bags.{one, times, sorted, IsAlike}
use Rattle.row.specs.Changes.{gains, losses, Turns}
use Rattle.row.specs.declared.record.Record.{Record}
use Rattle.row.specs.declared.value.Value.{Value}
use Rattle.row.specs.contracts.value.ValuePartialEq.TheImpl.{eq-value}
use Rattle.row.proofs.BagLemmas.{times-append, times-sorted, one_list}
use Rattle.row.proofs.Alike.{filter_alike, length_alike}
use Rattle.model.specs.Logs.{Change, inserts, deletes, updates, changed, rows_of}
use Rattle.model.proofs.LogLaws.{rows_of-push}
use Rattle.base.specs.Shards.{Shard, IsAt}
use Rattle.base.specs.Records.{plus_of, minus_of, records_of, record_count}
use Rattle.base.specs.Stored.{IsKeyed, AreKeyed}
use Rattle.base.proofs.Orders.{sorted_self, alike_sym}
use Rattle.base.proofs.Lookups.{has_is}
use Rattle.row.proofs.Keys.{value_equivalence}

-- ---- the row of a key
-- two lists that are one bag, of one row, are equal
one_alike : (xs ys : List Cells) → IsAlike row_cmp xs ys → length xs ≡ 1 → xs ≡ ys
one_alike xs ys h n = step xs ys h n (sym (length_alike row_cmp row_total row_same xs ys h) ∙ n)
  where
    step : (xs ys : List Cells) → IsAlike row_cmp xs ys → length xs ≡ 1 → length ys ≡ 1 → xs ≡ ys
    step [] ys h n m = absurd cc
    step (x ∷ x' ∷ xs) ys h n m = absurd (omega (arith, n))
    step (x ∷ []) [] h n m = absurd cc
    step (x ∷ []) (y ∷ y' ∷ ys) h n m = absurd (omega (arith, m))
    step (x ∷ []) (y ∷ []) h n m = one_list row_cmp row_total row_same (x ∷ []) (y ∷ []) (tt, tt) (tt, tt) h.each

-- where no key passes, no row has the key
none_has : (key : ℕ) (v : Value) (es : List (Value × Cells)) → AreKeyed key es → NonePasses (eq-value.it v) es → filter (has key (datum_of v)) (values_of es) ≡ []
none_has key v [] keyed none = refl
none_has key v (e ∷ es) keyed none =
    ap (λ b. cond b (e.1 ∷ filter (has key (datum_of v)) (values_of es)) (filter (has key (datum_of v)) (values_of es)))
    (has_is key v e.0 e.1 (All-head (IsKeyed key) e es keyed) ∙ none.0)
    ∙ none_has key v es (All-tail (IsKeyed key) e es keyed) none.1

-- the row that is found is the only one of its key
found_only : (key : ℕ) (v : Value) (row : Cells) (es : List (Value × Cells)) → AreKeyed key es → IsDistinct eq-value.it (keys_of es) → lookup (eq-value.it v) es ≡ Some row
    → filter (has key (datum_of v)) (values_of es) ≡ row ∷ []
found_only key v row [] keyed d h = absurd cc
found_only key v row (e ∷ es) keyed d h =
    ap (λ b. cond b (e.1 ∷ filter (has key (datum_of v)) (values_of es)) (filter (has key (datum_of v)) (values_of es))) (has_is key v e.0 e.1 (All-head (IsKeyed key) e es keyed))
    ∙ step (eq-value.it v e.0) refl h (found_only key v row es below (IsDistinct-tail eq-value.it e.0 (keys_of es) d))
  where
    below : AreKeyed key es
    below = All-tail (IsKeyed key) e es keyed

    step : (b : Bool) → eq-value.it v e.0 ≡ b → cond b (Some e.1) (lookup (eq-value.it v) es) ≡ Some row
        → (lookup (eq-value.it v) es ≡ Some row → filter (has key (datum_of v)) (values_of es) ≡ row ∷ [])
        → cond b (e.1 ∷ filter (has key (datum_of v)) (values_of es)) (filter (has key (datum_of v)) (values_of es)) ≡ row ∷ []
    step true is h rest =
        let none = none_has key v es below (none_past_head value_equivalence v e es d is) in
        let same : e.1 ≡ row = cc in
        ap (λ t. e.1 ∷ t) none ∙ ap (λ r. r ∷ []) same
    step false is h rest = rest h

-- so it is in the rows in order
found_sorted : (key : ℕ) (v : Value) (row : Cells) (es : List (Value × Cells)) → AreKeyed key es → IsDistinct eq-value.it (keys_of es) → lookup (eq-value.it v) es ≡ Some row
    → filter (has key (datum_of v)) (sorted row_cmp (values_of es)) ≡ row ∷ []
found_sorted key v row es keyed d h =
    let only = found_only key v row es keyed d h in
    let like = filter_alike row_cmp row_total row_same (has key (datum_of v)) (values_of es) (sorted row_cmp (values_of es)) (alike_sym row_cmp _ _ (sorted_self row_cmp (values_of es))) in
    sym (one_alike _ _ like (ap length only)) ∙ only

-- and what is found is that row
pub found_row : (key : ℕ) (v : Value) (d : Datum) (es : List (Value × Cells)) → AreKeyed key es → IsDistinct eq-value.it (keys_of es) → datum_of v ≡ d → (found : Option (Bor Cells)) → option_copied found ≡ lookup (eq-value.it v) es
    → IfSome found (λ r. filter (has key d) (sorted row_cmp (values_of es)) ≡ r.now ∷ [])
found_row key v d es keyed unique own None is = tt
found_row key v d es keyed unique own (Some r) is =
    ap (λ k. filter (has key k) (sorted row_cmp (values_of es))) (sym own) ∙ found_sorted key v r.now es keyed unique (sym is)

-- ---- the records of an entry
-- an entry that takes a row away takes one
abbrev pub TakesOne : ℕ → List Cells → Change → Type 0
TakesOne key rows (inserts r) = ⊤
TakesOne key rows (deletes k) = length (filter (has key k) rows) ≡ 1
TakesOne key rows (updates r) = length (filter (has key (cell_at r key)) rows) ≡ 1

takes_alike : (key : ℕ) (e : Change) (xs ys : List Cells) → IsAlike row_cmp xs ys → TakesOne key xs e → TakesOne key ys e
takes_alike key (inserts r) xs ys h n = tt
takes_alike key (deletes k) xs ys h n = sym (length_alike row_cmp row_total row_same _ _ (filter_alike row_cmp row_total row_same (has key k) xs ys h)) ∙ n
takes_alike key (updates r) xs ys h n = sym (length_alike row_cmp row_total row_same _ _ (filter_alike row_cmp row_total row_same (has key (cell_at r key)) xs ys h)) ∙ n

-- the order of the rows decides nothing of the records
records_alike : (key : ℕ) (e : Change) (xs ys : List Cells) → IsAlike row_cmp xs ys → TakesOne key xs e → records_of key xs e ≡ records_of key ys e
records_alike key (inserts r) xs ys h n = refl
records_alike key (deletes k) xs ys h n = ap (map minus_of) (one_alike _ _ (filter_alike row_cmp row_total row_same (has key k) xs ys h) n)
records_alike key (updates r) xs ys h n = ap (λ t. map minus_of t ++ plus_of r ∷ []) (one_alike _ _ (filter_alike row_cmp row_total row_same (has key (cell_at r key)) xs ys h) n)

count_minus : (xs : List Cells) (rest : List Record) → length (map minus_of xs ++ rest) ≡ length xs + length rest
count_minus [] rest = omega arith
count_minus (x ∷ xs) rest = omega (arith, count_minus xs rest)

length_minus : (xs : List Cells) → length (map minus_of xs) ≡ length xs
length_minus [] = refl
length_minus (x ∷ xs) = omega (arith, length_minus xs)

-- so does one whose records are counted so
pub takes_of : (key : ℕ) (rows : List Cells) (e : Change) (records : List Record) → records ≡ records_of key rows e → length records ≡ record_count e → TakesOne key rows e
takes_of key rows (inserts r) records is n = tt
takes_of key rows (deletes k) records is n = sym (length_minus (filter (has key k) rows)) ∙ (ap length (sym is) ∙ n)
takes_of key rows (updates r) records is n = omega (arith, count_minus (filter (has key (cell_at r key)) rows) (plus_of r ∷ []), ap length is, n)

-- what goes, and with it what comes
gains_minus : (z : Cells) (xs : List Cells) (rest : List Record) → gains z (map minus_of xs ++ rest) ≡ gains z rest
gains_minus z [] rest = refl
gains_minus z (x ∷ xs) rest = omega (arith, gains_minus z xs rest)

losses_minus : (z : Cells) (xs : List Cells) (rest : List Record) → losses z (map minus_of xs ++ rest) ≡ times row_cmp z xs + losses z rest
losses_minus z [] rest = omega arith
losses_minus z (x ∷ xs) rest = omega (arith, losses_minus z xs rest)

append_none : {X : Type 0} (xs : List X) → xs ++ [] ≡ xs
append_none [] = refl
append_none (x ∷ xs) = ap (λ t. x ∷ t) (append_none xs)

-- each row passes a test or not
parted : (p : Cells → Bool) (z : Cells) (xs : List Cells) → times row_cmp z xs ≡ times row_cmp z (filter p xs) + times row_cmp z (filter (λ x. not (p x)) xs)
parted p z [] = refl
parted p z (x ∷ xs) = step (p x) (parted p z xs)
  where
    step : (b : Bool) → times row_cmp z xs ≡ times row_cmp z (filter p xs) + times row_cmp z (filter (λ x. not (p x)) xs)
        → times row_cmp z (x ∷ xs) ≡ times row_cmp z (cond b (x ∷ filter p xs) (filter p xs)) + times row_cmp z (cond (not b) (x ∷ filter (λ x. not (p x)) xs) (filter (λ x. not (p x)) xs))
    step true h = omega (arith, h)
    step false h = omega (arith, h)

-- a row in place of each that passes
replaced : (p : Cells → Bool) (r z : Cells) (xs : List Cells)
    → times row_cmp z (map (λ x. cond (p x) r x) xs) + times row_cmp z (filter p xs) ≡ times row_cmp z xs + times row_cmp z (map (λ _. r) (filter p xs))
replaced p r z [] = refl
replaced p r z (x ∷ xs) = step (p x) (replaced p r z xs)
  where
    step : (b : Bool) → times row_cmp z (map (λ x. cond (p x) r x) xs) + times row_cmp z (filter p xs) ≡ times row_cmp z xs + times row_cmp z (map (λ _. r) (filter p xs))
        → times row_cmp z (cond b r x ∷ map (λ x. cond (p x) r x) xs) + times row_cmp z (cond b (x ∷ filter p xs) (filter p xs)) ≡ times row_cmp z (x ∷ xs) + times row_cmp z (map (λ _. r) (cond b (x ∷ filter p xs) (filter p xs)))
    step true h = omega (arith, h)
    step false h = omega (arith, h)

-- one row's place taken by another
once : (r z : Cells) (xs : List Cells) → length xs ≡ 1 → times row_cmp z (map (λ _. r) xs) ≡ one row_cmp z r
once r z [] n = absurd cc
once r z (x ∷ []) n = omega arith
once r z (x ∷ y ∷ xs) n = absurd (omega (arith, n))

pub turns_of : (key : ℕ) (rows : List Cells) (e : Change) → TakesOne key rows e → Turns rows (records_of key rows e) (changed key rows e)
turns_of key rows (inserts r) n = record { each = λ z. omega (arith, times-append row_cmp z rows (r ∷ [])) }
turns_of key rows (deletes k) n =
    let gone = filter (has key k) rows in
    record {
      each = λ z.
          omega (arith, parted (has key k) z rows, gains_minus z gone [], losses_minus z gone [], ap (gains z) (append_none (map minus_of gone)), ap (losses z) (append_none (map minus_of gone)));
    }
turns_of key rows (updates r) n =
    let gone = filter (has key (cell_at r key)) rows in
    record {
      each = λ z. omega (arith, replaced (has key (cell_at r key)) r z rows, once r z gone n, gains_minus z gone (plus_of r ∷ []), losses_minus z gone (plus_of r ∷ []));
    }

-- ---- at the fronts of a shard
module _ (s : Shard) (front : List Change) (at : IsAt s front) where
  rows_alike : IsAlike row_cmp s.rows (rows_of s.key front)
  rows_alike = record { each = λ z. ap (times row_cmp z) at.rows ∙ times-sorted row_cmp z (rows_of s.key front) }

  pub records_at : (e : Change) → TakesOne s.key s.rows e → records_of s.key s.rows e ≡ records_of s.key (rows_of s.key front) e
  records_at e n = records_alike s.key e s.rows (rows_of s.key front) rows_alike n

  pub turns_at : (e : Change) → TakesOne s.key s.rows e → Turns (rows_of s.key front) (records_of s.key s.rows e) (rows_of s.key (front ++ e ∷ []))
  turns_at e n =
      let t = turns_of s.key (rows_of s.key front) e (takes_alike s.key e s.rows (rows_of s.key front) rows_alike n) in
      rw (records_at e n, rows_of-push s.key front e) t

pub if_ok : {A E : Type 0} {P Q R : A → Type 0} (r : Result A E) → IfOk r P → IfOk r Q → ((v : A) → P v → Q v → R v) → IfOk r R
if_ok (Ok v) p q f = f v p q
if_ok (Err e) p q f = tt
