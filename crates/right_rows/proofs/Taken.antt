-- Records of keys that wait: in groups, and in the pieces of their source.
use Rattle.std.proofs.Common.{◌≡◌, ℕ, zero, suc, Bool, true, false, cond, ◌&&◌, List, [], ◌∷◌, ◌++◌, Option, Some, None, slice_get, slice_set, Result, OnOk, OnErr, refl, ap, sym, ◌∙◌, subst, arith, true≢false}
use Rattle.std.specs.List.{IsDistinct}
use Rattle.std.specs.Map.{keys_of}
use Rattle.row.specs.Bags.{Each}
use Rattle.row.specs.BagChanges.{plus_applied, minus_applied, with_gains, with_losses, with_records}
use Rattle.row.specs.Cells.{Datum, Cells, datum_of, has, passes, row_cmp, same}
use Rattle.row.specs.Changes.{IsCovered}
use Rattle.row.specs.Groups.{equal}
use Rattle.row.specs.declared.record.Record.{Record}
use Rattle.row.specs.declared.record.Sign.{Sign}
use Rattle.row.specs.declared.record.Sign.TheVariants.{Plus, Minus}
use Rattle.row.specs.declared.value.Value.{Value}
use Rattle.row.proofs.Cellwise.{eq-value_is}
use Rattle.row.proofs.BagChanges.{IsAscending-with_records}
use Rattle.row.proofs.BagLemmas.{Each-inserted, Each-removed}
use Rattle.row.proofs.Filtered.{Each-filter, Each-filtered}
use Rattle.plan.specs.declared.kinds.Aggregate.{Aggregate}
use Rattle.ops.specs.SideRows.{fits_64_bits}
use Rattle.partial.specs.States.{State, Hole, Waiting, Filled, entry_of, state_of, is_waiting, is_filled, after_change, piece_changed, ChangeFits, OthersStay}
use Rattle.partial.specs.BagLaws.{total_changes, total_fits}
use Rattle.partial.specs.Sums.{sum_of_bags}
use Rattle.partial.specs.Truth.{IsTrueOf}
use Rattle.partial.proofs.Truth.{change_keeps}
use Rattle.packet.specs.Groups.{KeyedRecords, or_empty, records_at, changed_by}
use Rattle.packet.proofs.GroupChanges.{each_group}
use Rattle.packet.proofs.KeySteps.{Store, state_same}
use Rattle.right_rows.specs.Rights.{AreOf, PiecesAreOf, IsStateOf, AreKeyed, AreRecordsOf, FitsPiece, records_of, piece_after}
use Rattle.right_rows.proofs.Owned.{after_both}

-- ---- a row's key
module _ (column : ℕ) (row : Cells) (kept : Store) where
  module _ (key : Value) (read : Some (datum_of key) ≡ slice_get row column) where
    has_is : (k : Value) → (same (datum_of key) (datum_of k) && is_waiting (state_of equal kept k)) ≡ (has column (datum_of k) row && is_waiting (state_of equal kept k))
    has_is k = ap (λ o. passes (λ x. same x (datum_of k)) o && is_waiting (state_of equal kept k)) read

    as_key : (k : Value) → same (datum_of key) (datum_of k) ≡ true → is_waiting (state_of equal kept key) ≡ is_waiting (state_of equal kept k)
    as_key k e = ap is_waiting (state_same kept key k (eq-value_is key k ∙ e))

    pub waits_not : is_waiting (state_of equal kept key) ≡ false → (k : Value) → false ≡ (has column (datum_of k) row && is_waiting (state_of equal kept k))
    waits_not idle k = step (same (datum_of key) (datum_of k)) refl ∙ has_is k
      where
        step : (b : Bool) → same (datum_of key) (datum_of k) ≡ b → false ≡ (b && is_waiting (state_of equal kept k))
        step true e = sym idle ∙ as_key k e
        step false e = refl

    pub waits_own : is_waiting (state_of equal kept key) ≡ true → (copy : Value) → datum_of copy ≡ datum_of key → (k : Value) → same (datum_of copy) (datum_of k) ≡ (has column (datum_of k) row && is_waiting (state_of equal kept k))
    waits_own waits copy is k = ap (λ d. same d (datum_of k)) is ∙ (step (same (datum_of key) (datum_of k)) refl ∙ has_is k)
      where
        step : (b : Bool) → same (datum_of key) (datum_of k) ≡ b → b ≡ (b && is_waiting (state_of equal kept k))
        step true e = sym waits ∙ as_key k e
        step false e = refl

-- ---- in groups
pub none_yet : (b : Bool) → [] ≡ cond {A = List Record} b [] []
none_yet true = refl
none_yet false = refl

records_more : (column : ℕ) (d : Datum) (done : List Record) (r : Record) → records_of column d (done ++ r ∷ []) ≡ cond (has column d r.row) (records_of column d done ++ r ∷ []) (records_of column d done)
records_more column d [] r = step (has column d r.row)
  where
    step : (b : Bool) → cond b (r ∷ []) [] ≡ cond b (r ∷ []) []
    step b = refl
records_more column d (x ∷ xs) r = step (has column d x.row) (has column d r.row) (records_more column d xs r)
  where
    step : (a b : Bool) → records_of column d (xs ++ r ∷ []) ≡ cond b (records_of column d xs ++ r ∷ []) (records_of column d xs)
        → cond a (x ∷ records_of column d (xs ++ r ∷ [])) (records_of column d (xs ++ r ∷ [])) ≡ cond b (cond a (x ∷ records_of column d xs) (records_of column d xs) ++ r ∷ []) (cond a (x ∷ records_of column d xs) (records_of column d xs))
    step true true h = ap (λ l. x ∷ l) h
    step true false h = ap (λ l. x ∷ l) h
    step false true h = h
    step false false h = h

pub one_more : (column : ℕ) (d : Datum) (done : List Record) (r : Record) (waits : Bool) (was : List Record) → was ≡ cond waits (records_of column d done) []
    → cond (has column d r.row && waits) (was ++ r ∷ []) was ≡ cond waits (records_of column d (done ++ r ∷ [])) []
one_more column d done r true was h = step (has column d r.row) ∙ sym (records_more column d done r)
  where
    step : (b : Bool) → cond (b && true) (was ++ r ∷ []) was ≡ cond b (records_of column d done ++ r ∷ []) (records_of column d done)
    step true = ap (λ l. l ++ r ∷ []) h
    step false = h
one_more column d done r false was h = step (has column d r.row) ∙ h
  where
    step : (b : Bool) → cond (b && false) (was ++ r ∷ []) was ≡ was
    step true = refl
    step false = refl

-- ---- what stays rows of the key
module _ (column : ℕ) (aggregate : Option Aggregate) where
  -- the records of a group are of its key
  abbrev pub OwnGroup : Value × List Record → Type 0
  OwnGroup g = AreRecordsOf column aggregate (datum_of g.0) g.1

  pub all_owned : (groups items : KeyedRecords) → groups ≡ items → IsDistinct equal (keys_of groups) → ((k : Value) → AreRecordsOf column aggregate (datum_of k) (records_at groups (datum_of k))) → Each OwnGroup items
  all_owned groups items e distinct own = subst (Each OwnGroup) e (each_group (λ k rs. AreRecordsOf column aggregate (datum_of k) rs) groups distinct (λ k named. own k))

  module _ (P : Cells → Type 0) where
    gains_all : (rows : List Cells) (rs : List Record) → Each P rows → Each (λ (r : Record). P r.row) rs → Each P (with_gains rows rs)
    gains_all rows [] h k = h
    gains_all rows (r ∷ rs) h k = gains_all (plus_applied r.sign r.row rows) rs (step r.sign) k.1
      where
        step : (s : Sign) → Each P (plus_applied s r.row rows)
        step Plus = Each-inserted row_cmp P r.row rows k.0 h
        step Minus = h

    losses_all : (rows : List Cells) (rs : List Record) → Each P rows → Each P (with_losses rows rs)
    losses_all rows [] h = h
    losses_all rows (r ∷ rs) h = losses_all (minus_applied r.sign r.row rows) rs (step r.sign)
      where
        step : (s : Sign) → Each P (minus_applied s r.row rows)
        step Plus = h
        step Minus = Each-removed row_cmp P r.row rows h

  module _ (d : Datum) (records : List Record) (own : AreRecordsOf column aggregate d records) where
    rows_own : (rows : List Cells) → AreOf column aggregate d rows → AreOf column aggregate d (with_records rows records)
    rows_own rows h = record {
      keyed = losses_all (λ r. has column d r ≡ true) (with_gains rows records) records (gains_all (λ r. has column d r ≡ true) rows records h.keyed own.keyed);
      fit = losses_all (λ r. fits_64_bits aggregate r ≡ true) (with_gains rows records) records (gains_all (λ r. fits_64_bits aggregate r ≡ true) rows records h.fit own.fit);
      in_order = IsAscending-with_records rows records h.in_order;
    }

    places_own : (pieces : List (Option (List Cells))) (s : ℕ) → PiecesAreOf column aggregate d pieces → PiecesAreOf column aggregate d (piece_changed with_records records s pieces (slice_get pieces s))
    places_own [] s h = tt
    places_own (None ∷ pieces) zero h = h
    places_own (Some p ∷ pieces) zero h = (rows_own p h.0, h.1)
    places_own (None ∷ pieces) (suc s) h = step (slice_get pieces s) (places_own pieces s h)
      where
        step : (place : Option (Option (List Cells))) → PiecesAreOf column aggregate d (piece_changed with_records records s pieces place) → PiecesAreOf column aggregate d (piece_changed with_records records (suc s) (None ∷ pieces) place)
        step None k = k
        step (Some place) k = k
    places_own (Some p ∷ pieces) (suc s) h = step (slice_get pieces s) (places_own pieces s h.1)
      where
        step : (place : Option (Option (List Cells))) → PiecesAreOf column aggregate d (piece_changed with_records records s pieces place) → PiecesAreOf column aggregate d (piece_changed with_records records (suc s) (Some p ∷ pieces) place)
        step None k = (h.0, k)
        step (Some place) k = (h.0, k)

    change_own : (s : ℕ) (st : State (List Cells)) → IsStateOf column aggregate d st → IsStateOf column aggregate d (after_change with_records s records st)
    change_own s Hole h = tt
    change_own s (Waiting pieces) h = places_own pieces s h
    change_own s (Filled rows) h = rows_own rows h

  pub one_taken : {A E : Type 0} (s : ℕ) (records : List Record) (old new : Store) (key : Value) (r : Result A E) → OthersStay equal key old new → OnOk r (state_of equal new key ≡ after_change with_records s records (state_of equal old key)) → OnErr r (new ≡ old)
      → AreRecordsOf column aggregate (datum_of key) records → AreKeyed column aggregate old → AreKeyed column aggregate new
  one_taken s records old new key r others own err of keyed = after_both column aggregate old new key (after_change with_records s records) r others own err (change_own (datum_of key) records of s) keyed

-- ---- from the groups to the keys
module _ (column : ℕ) (d : Datum) (records group : List Record) where
  pub owned_at : (aggregate : Option Aggregate) (waits : Bool) → group ≡ cond waits (records_of column d records) [] → Each (λ (r : Record). fits_64_bits aggregate r.row ≡ true) records → AreRecordsOf column aggregate d group
  owned_at aggregate true e h = rw e (record { keyed = Each-filtered (λ r. has column d r.row) records; fit = Each-filter (λ r. fits_64_bits aggregate r.row ≡ true) (λ r. has column d r.row) records h })
  owned_at aggregate false e h = rw e (record { keyed = tt; fit = tt })

pub fits_at_key : (s : ℕ) (rs group : List Record) (st : State (List Cells)) → group ≡ cond (is_waiting st) rs [] → FitsPiece s rs st → ChangeFits IsCovered s group st
fits_at_key s rs group Hole e h = tt
fits_at_key s rs group (Waiting pieces) e h = rw e h
fits_at_key s rs group (Filled rows) e h = rw e (record { enough = λ z. omega arith })

no_records : (pieces : List (Option (List Cells))) (s : ℕ) → piece_changed with_records [] s pieces (slice_get pieces s) ≡ pieces
no_records [] s = refl
no_records (None ∷ pieces) zero = refl
no_records (Some p ∷ pieces) zero = refl
no_records (o ∷ pieces) (suc s) = step (slice_get pieces s) (no_records pieces s)
  where
    step : (place : Option (Option (List Cells))) → piece_changed with_records [] s pieces place ≡ pieces → piece_changed with_records [] (suc s) (o ∷ pieces) place ≡ o ∷ pieces
    step None h = refl
    step (Some place) h = ap (λ ps. o ∷ ps) h

pub piece_is : (s : ℕ) (rs : List Record) (o : Option (List Record)) (st : State (List Cells)) → or_empty o ≡ cond (is_waiting st) rs [] → changed_by s o st ≡ piece_after s rs st
piece_is s rs None Hole e = refl
piece_is s rs (Some r) Hole e = refl
piece_is s rs None (Filled rows) e = refl
piece_is s rs (Some r) (Filled rows) e = rw e refl
piece_is s rs None (Waiting pieces) e = sym (ap Waiting (no_records pieces s)) ∙ ap (λ r. after_change with_records s r (Waiting pieces)) e
piece_is s rs (Some r) (Waiting pieces) e = ap (λ r. after_change with_records s r (Waiting pieces)) e

pub piece_keeps : (s : ℕ) (rs : List Record) (st : State (List Cells)) (parts : List (List Cells)) (part : List Cells) → is_filled st ≡ false → slice_get parts s ≡ Some part → IsCovered part rs → IsTrueOf sum_of_bags parts st
    → IsTrueOf sum_of_bags (slice_set parts s (with_records part rs)) (piece_after s rs st)
piece_keeps s rs Hole parts part f here fit t = tt
piece_keeps s rs (Waiting pieces) parts part f here fit t = change_keeps with_records IsCovered sum_of_bags total_changes total_fits parts s part rs (Waiting pieces) here fit t
piece_keeps s rs (Filled rows) parts part f here fit t = absurd (true≢false f)

-- a filled key has what it had, and no other is filled
pub entry_stays : (s : ℕ) (rs : List Record) (st : State (List Cells)) → entry_of (piece_after s rs st) ≡ entry_of st
entry_stays s rs Hole = refl
entry_stays s rs (Waiting pieces) = refl
entry_stays s rs (Filled rows) = refl
