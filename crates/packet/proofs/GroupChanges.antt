-- The records of keys: what is left to do, and how keys then stand.
use Rattle.std.proofs.Common.{◌≡◌, ℕ, zero, suc, Bool, true, false, cond, ◌||◌, List, [], ◌∷◌, Option, Some, None, slice_get, Result, Ok, Err, OnOk, OnErr, refl, ap, sym, ◌∙◌, subst, true≢false}
use Rattle.std.specs.List.{IsDistinct, AllByRecursion}
use Rattle.std.specs.Map.{lookup, keys_of}
use Rattle.std.specs.Option.{option_map}
use Rattle.std.proofs.lemmas.Map.Keys.{IsDistinct-head, IsDistinct-tail}
use Rattle.row.specs.Bags.{Each}
use Rattle.row.specs.BagChanges.{with_records}
use Rattle.row.specs.Cells.{Datum, Cells, datum_of, same}
use Rattle.row.specs.Changes.{IsCovered}
use Rattle.row.specs.Groups.{equal}
use Rattle.row.specs.declared.record.Record.{Record}
use Rattle.row.specs.declared.value.Value.{Value}
use Rattle.row.proofs.Cellwise.{eq-value_is}
use Rattle.row.proofs.Keys.{value_equivalence, same_flip}
use Rattle.row.proofs.Shards.{same_is, same_self}
use Rattle.partial.specs.States.{State, Hole, Waiting, Filled, state_of, order_of, after_change, piece_changed, ChangeFits, OthersStay}
use Rattle.packet.specs.Groups.{KeyedRecords, or_empty, records_at, names_of, changed_by}
use Rattle.packet.specs.Keys.{stand_of, stands_of, is_among}
use Rattle.packet.proofs.KeptKeys.{keys_stay, blank}
use Rattle.packet.proofs.KeySteps.{Store, state_same, one_key}

-- ---- a change that is held in something
module _ {C D : Type 0} (f : C → D) (plus : List Cells → D → List Cells) where
  pub after_items : (s : ℕ) (c : C) (st : State (List Cells)) → after_change (λ b x. plus b (f x)) s c st ≡ after_change plus s (f c) st
  after_items s c Hole = refl
  after_items s c (Filled e) = refl
  after_items s c (Waiting pieces) = step (slice_get pieces s)
    where
      step : (place : Option (Option (List Cells))) → Waiting (piece_changed (λ b x. plus b (f x)) c s pieces place) ≡ Waiting (piece_changed plus (f c) s pieces place)
      step None = refl
      step (Some place) = refl

-- ---- the keys that are left
-- the records of a group can be taken in at its key
abbrev pub FitsAt : ℕ → Store → Value × List Record → Type 0
FitsAt s kept g = ChangeFits IsCovered s g.1 (state_of equal kept g.0)

named_apart : (key : Value) (es : KeyedRecords) (d : Datum) → AllByRecursion (λ y. equal key y ≡ false) (keys_of es) → is_among (names_of es) d ≡ true → same (datum_of key) d ≡ false
named_apart key [] d a h = absurd (true≢false (sym h))
named_apart key (e ∷ es) d a h = step (same (datum_of e.0) d) refl h (named_apart key es d a.1)
  where
    step : (b : Bool) → same (datum_of e.0) d ≡ b → (b || is_among (names_of es) d) ≡ true → (is_among (names_of es) d ≡ true → same (datum_of key) d ≡ false) → same (datum_of key) d ≡ false
    step true q n rest = subst (λ x. same (datum_of key) x ≡ false) (same_is (datum_of e.0) d q) (sym (eq-value_is key e.0) ∙ a.0)
    step false q n rest = rest n

-- what holds of the records of each key that has a group holds of each group
pub each_group : (P : Value → List Record → Type 0) (groups : KeyedRecords) → IsDistinct equal (keys_of groups) → ((k : Value) → is_among (names_of groups) (datum_of k) ≡ true → P k (records_at groups (datum_of k))) → Each (λ (g : Value × List Record). P g.0 g.1) groups
each_group P [] distinct h = tt
each_group P (e ∷ es) distinct h =
    let self = same_self (datum_of e.0) in (
      subst (λ b. P e.0 (or_empty (cond b (Some e.1) (lookup (λ y. same (datum_of e.0) (datum_of y)) es)))) self (h e.0 (ap (λ b. b || is_among (names_of es) (datum_of e.0)) self)),
      each_group P es (IsDistinct-tail equal e.0 (keys_of es) distinct) (λ k n. later k n (named_apart e.0 es (datum_of k) (IsDistinct-head equal e.0 (keys_of es) distinct) n)),
    )
  where
    later : (k : Value) → is_among (names_of es) (datum_of k) ≡ true → same (datum_of e.0) (datum_of k) ≡ false → P k (records_at es (datum_of k))
    later k n apart =
        subst (λ b. P k (or_empty (cond b (Some e.1) (lookup (λ y. same (datum_of k) (datum_of y)) es)))) (same_flip (datum_of k) (datum_of e.0) ∙ apart)
        (h k (ap (λ b. b || is_among (names_of es) (datum_of k)) apart ∙ n))

all_fit : (s : ℕ) (kept : Store) (groups items : KeyedRecords) → groups ≡ items → IsDistinct equal (keys_of groups)
    → ((k : Value) → is_among (names_of groups) (datum_of k) ≡ true → ChangeFits IsCovered s (records_at groups (datum_of k)) (state_of equal kept k)) → Each (FitsAt s kept) items
all_fit s kept groups items e distinct h = subst (Each (FitsAt s kept)) e (each_group (λ k rs. ChangeFits IsCovered s rs (state_of equal kept k)) groups distinct h)

absent : {X : Type 0} (key : Value) (es : List (Value × X)) → AllByRecursion (λ y. equal key y ≡ false) (keys_of es) → lookup (equal key) es ≡ None
absent key [] h = refl
absent key (e ∷ es) h = rw h.0 (absent key es h.1)

lookup_same : {X : Type 0} (key k : Value) (xs : List (Value × X)) → equal key k ≡ true → lookup (equal k) xs ≡ lookup (equal key) xs
lookup_same key k [] h = refl
lookup_same key k (x ∷ xs) h = rw (value_equivalence.congr key k x.0 h) (ap (cond (equal k x.0) (Some x.1)) (lookup_same key k xs h))

module _ (source : ℕ) (mid new : Store) (key : Value) (records : List Record) (rest : KeyedRecords) (distinct : IsDistinct equal (keys_of ((key, records) ∷ rest))) (others : OthersStay equal key mid new) where
  each_other : (es : KeyedRecords) → AllByRecursion (λ y. equal key y ≡ false) (keys_of es) → Each (FitsAt source mid) es → Each (FitsAt source new) es
  each_other [] a h = tt
  each_other (e ∷ es) a h = (subst (ChangeFits IsCovered source e.1) (sym (others e.0 a.0)) h.0, each_other es a.1 h.1)

  rest_fits : Each (FitsAt source mid) rest → Each (FitsAt source new) rest
  rest_fits h = each_other rest (IsDistinct-head equal key (keys_of rest) distinct) h

  rest_changed : state_of equal new key ≡ after_change with_records source records (state_of equal mid key)
      → (k : Value) → changed_by source (lookup (equal k) ((key, records) ∷ rest)) (state_of equal mid k) ≡ changed_by source (lookup (equal k) rest) (state_of equal new k)
  rest_changed applied k = step (equal k key) refl
    where
      step : (b : Bool) → equal k key ≡ b → changed_by source (cond b (Some records) (lookup (equal k) rest)) (state_of equal mid k) ≡ changed_by source (lookup (equal k) rest) (state_of equal new k)
      step true e =
          let back = sym (value_equivalence.symm k key) ∙ e in
          let gone : lookup (equal k) rest ≡ None = lookup_same key k rest back ∙ absent key rest (IsDistinct-head equal key (keys_of rest) distinct) in
          rw gone (ap (after_change with_records source records) (sym (state_same mid key k back)) ∙ (sym applied ∙ state_same new key k back))
      step false e = ap (changed_by source (lookup (equal k) rest)) (sym (others k (sym (value_equivalence.symm k key) ∙ e)))

blank_changed : (records : List Record) (pieces : List (Option (List Cells))) (s : ℕ) → blank (piece_changed with_records records s pieces (slice_get pieces s)) ≡ blank pieces
blank_changed records [] s = refl
blank_changed records (None ∷ ps) zero = refl
blank_changed records (Some p ∷ ps) zero = refl
blank_changed records (o ∷ ps) (suc s) = step (slice_get ps s) (blank_changed records ps s)
  where
    step : (place : Option (Option (List Cells))) → blank (piece_changed with_records records s ps place) ≡ blank ps → blank (piece_changed with_records records (suc s) (o ∷ ps) place) ≡ blank (o ∷ ps)
    step None h = refl
    step (Some place) h = ap (λ bs. option_map (λ p. tt) o ∷ bs) h

stays_by : (s : ℕ) (o : Option (List Record)) (st : State (List Cells)) → stand_of (changed_by s o st) ≡ stand_of st
stays_by s None st = refl
stays_by s (Some records) Hole = refl
stays_by s (Some records) (Filled e) = refl
stays_by s (Some records) (Waiting pieces) = ap Waiting (blank_changed records pieces s)

changed_stands : (s : ℕ) (key : Value) (records : List Record) (old new : Store) → state_of equal new key ≡ after_change with_records s records (state_of equal old key) → OthersStay equal key old new → order_of new ≡ order_of old
    → stands_of new ≡ stands_of old
changed_stands s key records old new state others order = keys_stay old new (λ k. ap stand_of (one_key old new key others (after_change with_records s records) state k) ∙ step (state_of equal old k) (same (datum_of key) (datum_of k))) order
  where
    step : (st : State (List Cells)) (b : Bool) → stand_of (cond b (after_change with_records s records st) st) ≡ stand_of st
    step st true = stays_by s (Some records) st
    step st false = refl

-- whether it was done, or left as it was
pub taken_stands : {A E : Type 0} (s : ℕ) (key : Value) (records : List Record) (old new : Store) (r : Result A E) → OnOk r (state_of equal new key ≡ after_change with_records s records (state_of equal old key)) → OthersStay equal key old new → order_of new ≡ order_of old → OnErr r (new ≡ old)
    → stands_of new ≡ stands_of old
taken_stands s key records old new (Ok x) state others order err = changed_stands s key records old new state others order
taken_stands s key records old new (Err x) state others order err = ap stands_of err

-- ---- a walk over the groups
-- the groups of `rest` are left to do: each fits, and what they make of the keys as they are is what all groups make of the keys as they first were
pub record IsWalked (source : ℕ) (first : Store) (groups : KeyedRecords) (kept : Store) (rest : KeyedRecords) : Type 0 where
  pub distinct : IsDistinct equal (keys_of rest)
  pub fits : Each (FitsAt source kept) rest
  pub sources : kept.sources ≡ first.sources
  pub stands : stands_of kept ≡ stands_of first
  pub state : (k : Value) → changed_by source (lookup (equal k) groups) (state_of equal first k) ≡ changed_by source (lookup (equal k) rest) (state_of equal kept k)

pub walk_starts : (source : ℕ) (first : Store) (groups items : KeyedRecords) → groups ≡ items → IsDistinct equal (keys_of groups)
    → ((k : Value) → is_among (names_of groups) (datum_of k) ≡ true → ChangeFits IsCovered source (records_at groups (datum_of k)) (state_of equal first k)) → IsWalked source first groups first items
walk_starts source first groups items e distinct h = record {
  distinct = subst (λ g. IsDistinct equal (keys_of g)) e distinct;
  fits = all_fit source first groups items e distinct h;
  sources = refl;
  stands = refl;
  state = λ k. ap (λ g. changed_by source (lookup (equal k) g) (state_of equal first k)) e;
}

module _ (source : ℕ) (first : Store) (groups : KeyedRecords) (mid : Store) (key : Value) (records : List Record) (items rest : KeyedRecords) (next : items ≡ (key, records) ∷ rest) (walked : IsWalked source first groups mid items) where
  pub next_fits : FitsAt source mid (key, records)
  next_fits = (subst (Each (FitsAt source mid)) next walked.fits).0

  pub walk_goes : (new : Store) → OthersStay equal key mid new → new.sources ≡ mid.sources → stands_of new ≡ stands_of mid → state_of equal new key ≡ after_change with_records source records (state_of equal mid key) → IsWalked source first groups new rest
  walk_goes new others sources stands state =
      let distinct = subst (λ g. IsDistinct equal (keys_of g)) next walked.distinct in
      record {
        distinct = IsDistinct-tail equal key (keys_of rest) distinct;
        fits = rest_fits source mid new key records rest distinct others (subst (Each (FitsAt source mid)) next walked.fits).1;
        sources = sources ∙ walked.sources;
        stands = stands ∙ walked.stands;
        state = λ k. walked.state k
            ∙ (ap (λ g. changed_by source (lookup (equal k) g) (state_of equal mid k)) next
            ∙ rest_changed source mid new key records rest distinct others state k);
      }
