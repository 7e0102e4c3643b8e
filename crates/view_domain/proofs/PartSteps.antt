-- Records that are all of one key.
use Rattle.std.proofs.Common.{◌≡◌, ℕ, zero, suc, ◌+◌, ◌<◌, ◌≤◌, Bool, true, false, cond, ◌||◌, List, [], ◌∷◌, map, filter, take, take_all, length, slice_get, slice_index_or, Some, None, Result, Ok, Err, OnOk, refl, ap, sym, ◌∙◌, subst, arith}
use Rattle.std.specs.List.{IsDistinct}
use Rattle.std.specs.Map.{lookup}
use Rattle.row.specs.Bags.{Each}
use Rattle.row.specs.BagChanges.{with_records}
use Rattle.row.specs.Cells.{Datum, datum_of, same}
use Rattle.row.specs.Changes.{IsCovered}
use Rattle.row.specs.Groups.{equal}
use Rattle.row.specs.declared.record.Record.{Record}
use Rattle.row.specs.declared.value.Value.{Value}
use Rattle.row.proofs.Keys.{same_flip}
use Rattle.partial.specs.States.{after_change, state_of, ChangeFits, OthersStay}
use Rattle.packet.specs.Groups.{changed_by, named_in, names_of, or_empty, records_at}
use Rattle.packet.specs.Keys.{is_among, stands_of}
use Rattle.packet.specs.Messages.{KeyedRecord}
use Rattle.packet.specs.Truth.{changes_at}
use Rattle.packet.proofs.GroupChanges.{IsWalked, next_fits, walk_starts, walk_goes}
use Rattle.packet.proofs.KeySteps.{Store}
use Rattle.view_domain.specs.Parts.{AreOf}

records_all : (key d : Datum) (changes : List KeyedRecord) → Each (λ (c : KeyedRecord). c.key ≡ key) changes → changes_at d changes ≡ cond (same key d) (map (λ (c : KeyedRecord). c.change) changes) []
records_all key d [] h = step (same key d)
  where
    step : (b : Bool) → changes_at d [] ≡ cond b (map (λ (c : KeyedRecord). c.change) []) []
    step true = refl
    step false = refl
records_all key d (c ∷ cs) h = ap (λ b. map (λ (c : KeyedRecord). c.change) (cond b (c ∷ filter (λ (c : KeyedRecord). same c.key d) cs) (filter (λ (c : KeyedRecord). same c.key d) cs))) (ap (λ k. same k d) h.0) ∙ step (same key d) (records_all key d cs h.1)
  where
    step : (b : Bool) → changes_at d cs ≡ cond b (map (λ (c : KeyedRecord). c.change) cs) [] → map (λ (c : KeyedRecord). c.change) (cond b (c ∷ filter (λ (c : KeyedRecord). same c.key d) cs) (filter (λ (c : KeyedRecord). same c.key d) cs)) ≡ cond b (map (λ (c : KeyedRecord). c.change) (c ∷ cs)) []
    step true e = ap (λ rs. c.change ∷ rs) e
    step false e = e

names_all : (key d : Datum) (changes : List KeyedRecord) → Each (λ (c : KeyedRecord). c.key ≡ key) changes → 0 < length changes → is_among (named_in changes) d ≡ same key d
names_all key d [] h some = absurd (omega (arith, some))
names_all key d (c ∷ []) h some = rw h.0 (step (same key d))
  where
    step : (b : Bool) → (b || false) ≡ b
    step true = refl
    step false = refl
names_all key d (c ∷ x ∷ cs) h some = rw h.0 (step (same key d) (is_among (named_in (x ∷ cs)) d) (names_all key d (x ∷ cs) h.1 (omega arith)))
  where
    step : (b r : Bool) → r ≡ b → (b || r) ≡ b
    step true r e = refl
    step false r e = e

module _ (key : Value) (records : List Record) (changes : List KeyedRecord) (of : AreOf (datum_of key) changes) (is : records ≡ map (λ (c : KeyedRecord). c.change) changes) where
  pub one_records : (d : Datum) → records_at ((key, records) ∷ []) d ≡ changes_at d changes
  one_records d = ap (λ b. or_empty (cond b (Some records) None)) (same_flip d (datum_of key)) ∙ (step (same (datum_of key) d) ∙ sym (records_all (datum_of key) d changes of.each))
    where
      step : (b : Bool) → or_empty (cond b (Some records) None) ≡ cond b (map (λ (c : KeyedRecord). c.change) changes) []
      step true = is
      step false = refl

  pub one_names : (d : Datum) → is_among (names_of ((key, records) ∷ [])) d ≡ is_among (named_in changes) d
  one_names d = step (same (datum_of key) d) ∙ sym (names_all (datum_of key) d changes of.each of.some)
    where
      step : (b : Bool) → (b || false) ≡ b
      step true = refl
      step false = refl

-- one group is taken in
module _ (source : ℕ) (kept : Store) (key : Value) (records : List Record) (fits : (k : Value) → is_among (names_of ((key, records) ∷ [])) (datum_of k) ≡ true → ChangeFits IsCovered source (records_at ((key, records) ∷ []) (datum_of k)) (state_of equal kept k)) where
  alone : IsDistinct equal (key ∷ [])
  unfolding IsDistinct
  alone = (tt, tt)

  starts : IsWalked source kept ((key, records) ∷ []) kept ((key, records) ∷ [])
  starts = walk_starts source kept ((key, records) ∷ []) ((key, records) ∷ []) refl alone fits

  pub one_fits : ChangeFits IsCovered source records (state_of equal kept key)
  one_fits = next_fits source kept ((key, records) ∷ []) kept key records ((key, records) ∷ []) [] refl starts

  pub one_state : (new : Store) → OthersStay equal key kept new → new.sources ≡ kept.sources → stands_of new ≡ stands_of kept → state_of equal new key ≡ after_change with_records source records (state_of equal kept key)
      → (k : Value) → state_of equal new k ≡ changed_by source (lookup (equal k) ((key, records) ∷ [])) (state_of equal kept k)
  one_state new others sources stands state k = sym ((walk_goes source kept ((key, records) ∷ []) kept key records ((key, records) ∷ []) [] refl starts new others sources stands state).state k)

-- what follows from two things that hold where it went well
pub ok_with : {A E P Q R : Type 0} (r : Result A E) → (P → Q → R) → OnOk r P → OnOk r Q → OnOk r R
ok_with (Ok x) f p q = f p q
ok_with (Err e) f p q = tt

-- ---- a look at each
each_next : (key : Datum) (changes : List KeyedRecord) (i : ℕ) (c : KeyedRecord) → i < length changes → c ≡ slice_index_or changes i c → Each (λ (c : KeyedRecord). c.key ≡ key) (take i changes) → c.key ≡ key → Each (λ (c : KeyedRecord). c.key ≡ key) (take (suc i) changes)
each_next key [] i c lt at before own = absurd (omega (arith, lt))
each_next key (x ∷ xs) zero c lt at before own = (ap (λ (c : KeyedRecord). c.key) (sym at) ∙ own, tt)
each_next key (x ∷ xs) (suc i) c lt at before own = (before.0, each_next key xs i c (omega (arith, lt)) at before.1 own)

pub each_more : (key : Datum) (changes : List KeyedRecord) (i : ℕ) (c : KeyedRecord) → i < length changes → c ≡ slice_index_or changes i c → Each (λ (c : KeyedRecord). c.key ≡ key) (take i changes) → c.key ≡ key → Each (λ (c : KeyedRecord). c.key ≡ key) (take (i + 1) changes)
each_more key changes i c lt at before own =
    let next : suc i ≡ i + 1 = omega arith in
    subst (λ n. Each (λ (c : KeyedRecord). c.key ≡ key) (take n changes)) next (each_next key changes i c lt at before own)

pub all_of : (key own : Datum) (changes : List KeyedRecord) (i : ℕ) (first : KeyedRecord) → length changes ≤ i → Each (λ (c : KeyedRecord). c.key ≡ key) (take i changes) → key ≡ own → Some first ≡ slice_get changes 0 → AreOf own changes
all_of key own [] i first le each is at = cc
all_of key own (c ∷ cs) i first le each is at = record { some = omega arith; each = subst (λ k. Each (λ (c : KeyedRecord). c.key ≡ k) (c ∷ cs)) is (subst (Each (λ (c : KeyedRecord). c.key ≡ key)) (take_all i (c ∷ cs) le) each) }
