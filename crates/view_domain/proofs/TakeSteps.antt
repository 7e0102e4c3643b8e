-- What is kept at a key after a packet's evictions and records.
use Rattle.std.proofs.Common.{◌≡◌, ℕ, zero, suc, Bool, true, false, cond, ◌||◌, List, [], ◌∷◌, Option, Some, None, slice_get, slice_set, refl, ap, sym, ◌∙◌, subst, true≢false}
use Rattle.std.specs.Map.{lookup}
use Rattle.row.specs.Bags.{Each}
use Rattle.row.specs.BagChanges.{with_records}
use Rattle.row.specs.Cells.{Datum, Cells, datum_of, same}
use Rattle.row.specs.Changes.{IsCovered}
use Rattle.row.specs.Groups.{equal}
use Rattle.row.specs.declared.record.Record.{Record}
use Rattle.row.specs.declared.value.Value.{Value}
use Rattle.row.proofs.Keys.{same_flip}
use Rattle.row.proofs.Shards.{same_is}
use Rattle.partial.specs.BagLaws.{total_changes, total_fits}
use Rattle.partial.specs.States.{State, Hole, Waiting, Filled, state_of, evicted, ChangeFits}
use Rattle.partial.specs.Sums.{sum_of_bags}
use Rattle.partial.specs.Truth.{IsTrueOf}
use Rattle.partial.proofs.Truth.{evict_keeps, change_keeps}
use Rattle.packet.specs.Keys.{is_among}
use Rattle.packet.specs.Messages.{KeyedRecord}
use Rattle.packet.specs.Truth.{changes_at}
use Rattle.packet.specs.Groups.{KeyedRecords, or_empty, records_at, names_of, named_in, changed_by}
use Rattle.view_domain.specs.Taken.{evicted_all, IsStepOf}
use Rattle.packet.proofs.GroupSteps.{by_datum}
use Rattle.packet.proofs.KeySteps.{Store}

set_twice : {X : Type 0} (xs : List X) (i : ℕ) (x : X) → slice_set (slice_set xs i x) i x ≡ slice_set xs i x
set_twice [] i x = refl
set_twice (y ∷ ys) zero x = refl
set_twice (y ∷ ys) (suc i) x = ap (λ zs. y ∷ zs) (set_twice ys i x)

pub set_same : {X : Type 0} (xs : List X) (i : ℕ) (x : X) → slice_get xs i ≡ Some x → slice_set xs i x ≡ xs
set_same [] i x h = refl
set_same (y ∷ ys) zero x h = let e : y ≡ x = cc in ap (λ z. z ∷ ys) (sym e)
set_same (y ∷ ys) (suc i) x h = ap (λ zs. y ∷ zs) (set_same ys i x h)

-- ---- evicted once or more
evicted_twice : (s : ℕ) (st : State (List Cells)) → evicted (Some s) (evicted (Some s) st) ≡ evicted (Some s) st
evicted_twice s Hole = refl
evicted_twice s (Waiting pieces) = ap Waiting (set_twice pieces s None)
evicted_twice s (Filled e) = refl

stays_evicted : (s : ℕ) (ds : List Datum) (k : Datum) (st : State (List Cells)) → evicted_all s ds k (evicted (Some s) st) ≡ evicted (Some s) st
stays_evicted s [] k st = refl
stays_evicted s (d ∷ ds) k st = step (same d k) (stays_evicted s ds k st)
  where
    step : (b : Bool) → evicted_all s ds k (evicted (Some s) st) ≡ evicted (Some s) st → evicted_all s ds k (cond b (evicted (Some s) (evicted (Some s) st)) (evicted (Some s) st)) ≡ evicted (Some s) st
    step true h = ap (evicted_all s ds k) (evicted_twice s st) ∙ h
    step false h = h

evicted_named : (s : ℕ) (ds : List Datum) (k : Datum) (st : State (List Cells)) → evicted_all s ds k st ≡ cond (is_among ds k) (evicted (Some s) st) st
evicted_named s [] k st = refl
evicted_named s (d ∷ ds) k st = step (same d k) (evicted_named s ds k st)
  where
    step : (b : Bool) → evicted_all s ds k st ≡ cond (is_among ds k) (evicted (Some s) st) st → evicted_all s ds k (cond b (evicted (Some s) st) st) ≡ cond (b || is_among ds k) (evicted (Some s) st) st
    step true h = stays_evicted s ds k st
    step false h = h

-- ---- who is named
not_named : (evicts : List Datum) (changes : List KeyedRecord) (d : Datum) → Each (λ (c : KeyedRecord). is_among evicts c.key ≡ false) changes → is_among evicts d ≡ true → is_among (named_in changes) d ≡ false
not_named evicts [] d h e = refl
not_named evicts (c ∷ cs) d h e = step (same c.key d) refl (not_named evicts cs d h.1 e)
  where
    step : (b : Bool) → same c.key d ≡ b → is_among (named_in cs) d ≡ false → (b || is_among (named_in cs) d) ≡ false
    step true q n = absurd (true≢false (sym e ∙ (ap (is_among evicts) (sym (same_is c.key d q)) ∙ h.0)))
    step false q n = n

not_evicted : (evicts : List Datum) (changes : List KeyedRecord) (d : Datum) → Each (λ (c : KeyedRecord). is_among evicts c.key ≡ false) changes → is_among (named_in changes) d ≡ true → is_among evicts d ≡ false
not_evicted evicts changes d h n = step (is_among evicts d) refl
  where
    step : (b : Bool) → is_among evicts d ≡ b → b ≡ false
    step false e = refl
    step true e = absurd (true≢false (sym n ∙ not_named evicts changes d h e))

unnamed : (groups : KeyedRecords) (d : Datum) → is_among (names_of groups) d ≡ false → lookup (λ y. same d (datum_of y)) groups ≡ None
unnamed [] d h = refl
unnamed (e ∷ es) d h = rw (same_flip d (datum_of e.0)) (step (same (datum_of e.0) d) h (unnamed es d))
  where
    step : (b : Bool) → (b || is_among (names_of es) d) ≡ false → (is_among (names_of es) d ≡ false → lookup (λ y. same d (datum_of y)) es ≡ None) → cond b (Some e.1) (lookup (λ y. same d (datum_of y)) es) ≡ None
    step true n rest = absurd (true≢false n)
    step false n rest = rest n

module _ (s : ℕ) (old mid : Store) (evicts : List Datum) (changes : List KeyedRecord) (groups : KeyedRecords) (apart : Each (λ (c : KeyedRecord). is_among evicts c.key ≡ false) changes)
    (was : (k : Value) → state_of equal mid k ≡ evicted_all s evicts (datum_of k) (state_of equal old k)) (records : (d : Datum) → records_at groups d ≡ changes_at d changes) (names : (d : Datum) → is_among (names_of groups) d ≡ is_among (named_in changes) d) where
  -- the records fit what the evictions leave
  pub taken_fits : ((k : Value) → is_among (named_in changes) (datum_of k) ≡ true → ChangeFits IsCovered s (changes_at (datum_of k) changes) (state_of equal old k))
      → (k : Value) → is_among (names_of groups) (datum_of k) ≡ true → ChangeFits IsCovered s (records_at groups (datum_of k)) (state_of equal mid k)
  taken_fits h k n =
      let told = sym (names (datum_of k)) ∙ n in
      let same_state : state_of equal mid k ≡ state_of equal old k = was k ∙ (evicted_named s evicts (datum_of k) (state_of equal old k) ∙ ap (λ b. cond b (evicted (Some s) (state_of equal old k)) (state_of equal old k)) (not_evicted evicts changes (datum_of k) apart told)) in
      rw (records (datum_of k), same_state) (h k told)

  module _ (parts : List (List Cells)) (part next : List Cells) (here : slice_get parts s ≡ Some part) where
    stepped : (o : Option (List Record)) (st : State (List Cells)) → IsStepOf part (or_empty o) next → IsTrueOf sum_of_bags parts st → IsTrueOf sum_of_bags (slice_set parts s next) (changed_by s o st)
    stepped None st k t =
        let e : slice_set parts s next ≡ parts = ap (slice_set parts s) k.is ∙ set_same parts s part here in
        rw e t
    stepped (Some rs) st k t = rw k.is (change_keeps with_records IsCovered sum_of_bags total_changes total_fits parts s part rs st here k.fits t)

    -- what is true of the parts before is true of those after
    pub taken_true : (k : Value) (new : State (List Cells)) → new ≡ changed_by s (lookup (equal k) groups) (state_of equal mid k) → (is_among evicts (datum_of k) ≡ false → IsStepOf part (changes_at (datum_of k) changes) next)
        → IsTrueOf sum_of_bags parts (state_of equal old k) → IsTrueOf sum_of_bags (slice_set parts s next) new
    taken_true k new is step t = rw (is, was k, evicted_named s evicts (datum_of k) (state_of equal old k)) (by (is_among evicts (datum_of k)) refl)
      where
        found : or_empty (lookup (equal k) groups) ≡ changes_at (datum_of k) changes
        found = ap or_empty (by_datum k groups) ∙ records (datum_of k)

        none : is_among evicts (datum_of k) ≡ true → lookup (equal k) groups ≡ None
        none e = by_datum k groups ∙ unnamed groups (datum_of k) (names (datum_of k) ∙ not_named evicts changes (datum_of k) apart e)

        by : (b : Bool) → is_among evicts (datum_of k) ≡ b → IsTrueOf sum_of_bags (slice_set parts s next) (changed_by s (lookup (equal k) groups) (cond b (evicted (Some s) (state_of equal old k)) (state_of equal old k)))
        by true e = rw (none e) (evict_keeps sum_of_bags parts (Some s) next (state_of equal old k) t)
        by false e = stepped (lookup (equal k) groups) (state_of equal old k) (subst (λ rs. IsStepOf part rs next) (sym found) (step e)) t
