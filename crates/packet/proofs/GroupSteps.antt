-- A group with one record more, and a new one.
use Rattle.std.proofs.Common.{◌≡◌, Bool, true, false, cond, ◌||◌, List, [], ◌∷◌, ◌++◌, Option, Some, None, is_some, map, filter, refl, ap, sym, ◌∙◌}
use Rattle.std.specs.HashMap.{HashMap}
use Rattle.std.specs.Map.{lookup, set_value}
use Rattle.row.specs.Cells.{Datum, datum_of, same}
use Rattle.row.specs.Groups.{equal}
use Rattle.row.specs.declared.record.Record.{Record}
use Rattle.row.specs.declared.value.Value.{Value}
use Rattle.row.proofs.Cellwise.{eq-value_is}
use Rattle.row.proofs.Keys.{equal_is, same_flip}
use Rattle.row.proofs.Shards.{same_is}
use Rattle.packet.specs.Keys.{is_among}
use Rattle.packet.specs.Messages.{KeyedRecord}
use Rattle.packet.specs.Truth.{changes_at}
use Rattle.packet.specs.Groups.{KeyedRecords, or_empty, records_at, names_of, named_in}

pub by_datum : {X : Type 0} (key : Value) (xs : List (Value × X)) → lookup (equal key) xs ≡ lookup (λ y. same (datum_of key) (datum_of y)) xs
by_datum key xs = λ i. lookup (λ y. eq-value_is key y i) xs

flipped : (a b : Datum) (x : Bool) → same a b ≡ x → same b a ≡ x
flipped a b x h = same_flip b a ∙ h

-- the value at the key that stands for a datum
abbrev at : {X : Type 0} → Datum → List (Value × X) → Option X
at d es = lookup (λ y. same d (datum_of y)) es

-- a datum is that of a key, or is not there
named_or : {X P : Type 0} (d : Datum) (es : List (Value × X)) → ((y : Value) → d ≡ datum_of y → P) → (at d es ≡ None → P) → P
named_or d [] known none = none refl
named_or {X} {P} d (e ∷ es) known none = step (same d (datum_of e.0)) refl (named_or d es known)
  where
    step : (b : Bool) → same d (datum_of e.0) ≡ b → ((at d es ≡ None → P) → P) → P
    step true h rest = known e.0 (same_is d (datum_of e.0) h)
    step false h rest = rest (λ n. none (rw h n))

-- what is put at a key is at its datum, and elsewhere is what was there
module _ {X : Type 0} (old new : List (Value × X)) (key : Value) (x : X) (put : (q : Value) → lookup (equal q) new ≡ cond (equal key q) (Some x) (lookup (equal q) old)) where
  at_named : (y : Value) (d : Datum) → d ≡ datum_of y → at d new ≡ cond (same (datum_of key) d) (Some x) (at d old)
  at_named y d e = rw e (sym (by_datum y new) ∙ (put y ∙ (λ i. cond (eq-value_is key y i) (Some x) (by_datum y old i))))

  at_new : (d : Datum) → at d new ≡ cond (same (datum_of key) d) (Some x) (at d old)
  at_new d = step (same (datum_of key) d) refl
    where
      by_name : (b : Bool) → same (datum_of key) d ≡ b → (y : Value) → d ≡ datum_of y → at d new ≡ cond b (Some x) (at d old)
      by_name b h y e = at_named y d e ∙ ap (λ c. cond c (Some x) (at d old)) h

      step : (b : Bool) → same (datum_of key) d ≡ b → at d new ≡ cond b (Some x) (at d old)
      step true h = by_name true h key (sym (same_is (datum_of key) d h))
      step false h = named_or d new (by_name false h) (λ n. named_or d old (by_name false h) (λ o. n ∙ sym o))

put_at : (es : KeyedRecords) (key : Value) (d : Datum) (item : Record) (g : List Record) → lookup (equal key) es ≡ Some g
    → records_at (set_value (equal key) es (g ++ item ∷ [])) d ≡ cond (same (datum_of key) d) (records_at es d ++ item ∷ []) (records_at es d)
put_at [] key d item g h = cc
put_at (e ∷ es) key d item g h = step (equal key e.0) refl h (λ k. put_at es key d item g k)
  where
    here : (x : Bool) → same (datum_of key) d ≡ x → datum_of key ≡ datum_of e.0 → g ≡ e.1
        → or_empty (cond (same d (datum_of e.0)) (Some (g ++ item ∷ [])) (lookup (λ y. same d (datum_of y)) es)) ≡ cond x (or_empty (cond (same d (datum_of e.0)) (Some e.1) (lookup (λ y. same d (datum_of y)) es)) ++ item ∷ []) (or_empty (cond (same d (datum_of e.0)) (Some e.1) (lookup (λ y. same d (datum_of y)) es)))
    here true q s i = let t : same d (datum_of e.0) ≡ true = rw (← s) (flipped (datum_of key) d true q) in rw (t, i) refl
    here false q s i = let t : same d (datum_of e.0) ≡ false = rw (← s) (flipped (datum_of key) d false q) in rw t refl

    step : (b : Bool) → equal key e.0 ≡ b → cond b (Some e.1) (lookup (equal key) es) ≡ Some g
        → (lookup (equal key) es ≡ Some g → records_at (set_value (equal key) es (g ++ item ∷ [])) d ≡ cond (same (datum_of key) d) (records_at es d ++ item ∷ []) (records_at es d))
        → records_at (cond b ((e.0, g ++ item ∷ []) ∷ es) (e ∷ set_value (equal key) es (g ++ item ∷ []))) d ≡ cond (same (datum_of key) d) (records_at (e ∷ es) d ++ item ∷ []) (records_at (e ∷ es) d)
    step true q f rest = here (same (datum_of key) d) refl (equal_is key e.0 q) cc
    step false q f rest = apart (same d (datum_of e.0)) refl (rest f)
      where
        apart : (t : Bool) → same d (datum_of e.0) ≡ t → records_at (set_value (equal key) es (g ++ item ∷ [])) d ≡ cond (same (datum_of key) d) (records_at es d ++ item ∷ []) (records_at es d)
            → or_empty (cond t (Some e.1) (lookup (λ y. same d (datum_of y)) (set_value (equal key) es (g ++ item ∷ [])))) ≡ cond (same (datum_of key) d) (or_empty (cond t (Some e.1) (lookup (λ y. same d (datum_of y)) es)) ++ item ∷ []) (or_empty (cond t (Some e.1) (lookup (λ y. same d (datum_of y)) es)))
        apart true h k = let no : same (datum_of key) d ≡ false = ap (λ x. same (datum_of key) x) (same_is d (datum_of e.0) h) ∙ (sym (eq-value_is key e.0) ∙ q) in rw no refl
        apart false h k = k

-- ---- the names
or_none : (a : Bool) → (a || false) ≡ a
or_none true = refl
or_none false = refl

or_all : (a : Bool) → (a || true) ≡ true
or_all true = refl
or_all false = refl

among_is : (d : Datum) (es : KeyedRecords) → is_among (names_of es) d ≡ is_some (at d es)
among_is d [] = refl
among_is d (e ∷ es) = step (same d (datum_of e.0)) refl (among_is d es)
  where
    step : (b : Bool) → same d (datum_of e.0) ≡ b → is_among (names_of es) d ≡ is_some (at d es) → (same (datum_of e.0) d || is_among (names_of es) d) ≡ is_some (cond b (Some e.1) (at d es))
    step true h rest = rw (flipped d (datum_of e.0) true h) refl
    step false h rest = rw (flipped d (datum_of e.0) false h) rest

name_known : (es : KeyedRecords) (key : Value) (g h : List Record) (d : Datum) → lookup (equal key) es ≡ Some g → is_among (names_of (set_value (equal key) es h)) d ≡ (is_among (names_of es) d || same (datum_of key) d)
name_known [] key g h d k = cc
name_known (e ∷ es) key g h d k = step (equal key e.0) refl k (λ n. name_known es key g h d n)
  where
    both : (a : Bool) → same (datum_of key) d ≡ a → datum_of key ≡ datum_of e.0 → (same (datum_of e.0) d || is_among (names_of es) d) ≡ ((same (datum_of e.0) d || is_among (names_of es) d) || a)
    both true q s = let t : same (datum_of e.0) d ≡ true = rw (← s) q in rw t refl
    both false q s = sym (or_none (same (datum_of e.0) d || is_among (names_of es) d))

    later : (a : Bool) → is_among (names_of (set_value (equal key) es h)) d ≡ (is_among (names_of es) d || same (datum_of key) d)
        → (a || is_among (names_of (set_value (equal key) es h)) d) ≡ ((a || is_among (names_of es) d) || same (datum_of key) d)
    later true r = refl
    later false r = r

    step : (b : Bool) → equal key e.0 ≡ b → cond b (Some e.1) (lookup (equal key) es) ≡ Some g
        → (lookup (equal key) es ≡ Some g → is_among (names_of (set_value (equal key) es h)) d ≡ (is_among (names_of es) d || same (datum_of key) d))
        → is_among (names_of (cond b ((e.0, h) ∷ es) (e ∷ set_value (equal key) es h))) d ≡ (is_among (names_of (e ∷ es)) d || same (datum_of key) d)
    step true q f rest = both (same (datum_of key) d) refl (equal_is key e.0 q)
    step false q f rest = later (same (datum_of e.0) d) (rest f)

-- ---- in the call
module _ (old new : KeyedRecords) (key : Value) (item : Record) where
  pub known_records : (g h : List Record) → lookup (equal key) old ≡ Some g → h ≡ g ++ item ∷ [] → new ≡ set_value (equal key) old h
      → (d : Datum) → records_at new d ≡ cond (same (datum_of key) d) (records_at old d ++ item ∷ []) (records_at old d)
  known_records g h known more n d = rw (n, more) (put_at old key d item g known)

  pub known_names : (g h : List Record) → lookup (equal key) old ≡ Some g → new ≡ set_value (equal key) old h → (d : Datum) → is_among (names_of new) d ≡ (is_among (names_of old) d || same (datum_of key) d)
  known_names g h known n d = rw n (name_known old key g h d known)

  -- the map and the group as the call has them
  pub put_here : {S : Type 0} (map : HashMap Value (List Record) S) (h : List Record) → map.entries ≡ old → h ≡ item ∷ []
      → ((q : Value) → lookup (equal q) new ≡ cond (equal key q) (Some h) (lookup (equal q) map.entries)) → (q : Value) → lookup (equal q) new ≡ cond (equal key q) (Some (item ∷ [])) (lookup (equal q) old)
  put_here map h was one put q = put q ∙ rw (was, one) refl

  -- a group of one record is put at a key that had none
  module _ (none : lookup (equal key) old ≡ None) (put : (q : Value) → lookup (equal q) new ≡ cond (equal key q) (Some (item ∷ [])) (lookup (equal q) old)) where
    pub new_records : (d : Datum) → records_at new d ≡ cond (same (datum_of key) d) (records_at old d ++ item ∷ []) (records_at old d)
    new_records d = ap or_empty (at_new old new key (item ∷ []) put d) ∙ step (same (datum_of key) d) refl
      where
        step : (b : Bool) → same (datum_of key) d ≡ b → or_empty (cond b (Some (item ∷ [])) (at d old)) ≡ cond b (records_at old d ++ item ∷ []) (records_at old d)
        step true h =
            let gone : at d old ≡ None = ap (λ k. at k old) (sym (same_is (datum_of key) d h)) ∙ (sym (by_datum key old) ∙ none) in
            rw gone refl
        step false h = refl

    pub new_names : (d : Datum) → is_among (names_of new) d ≡ (is_among (names_of old) d || same (datum_of key) d)
    new_names d = among_is d new ∙ (ap is_some (at_new old new key (item ∷ []) put d) ∙ step (same (datum_of key) d))
      where
        step : (b : Bool) → is_some (cond b (Some (item ∷ [])) (at d old)) ≡ (is_among (names_of old) d || b)
        step true = sym (or_all (is_among (names_of old) d))
        step false = sym (among_is d old) ∙ sym (or_none (is_among (names_of old) d))

-- ---- along the changes
changes_more : (d : Datum) (done : List KeyedRecord) (c : KeyedRecord) → changes_at d (done ++ c ∷ []) ≡ cond (same c.key d) (changes_at d done ++ c.change ∷ []) (changes_at d done)
changes_more d [] c = step (same c.key d)
  where
    step : (b : Bool) → map (λ (x : KeyedRecord). x.change) (cond b (c ∷ []) []) ≡ cond b (c.change ∷ []) []
    step true = refl
    step false = refl
changes_more d (x ∷ xs) c = step (same x.key d) (same c.key d) (changes_more d xs c)
  where
    step : (a b : Bool) → changes_at d (xs ++ c ∷ []) ≡ cond b (changes_at d xs ++ c.change ∷ []) (changes_at d xs)
        → map (λ (x : KeyedRecord). x.change) (cond a (x ∷ filter (λ (c : KeyedRecord). same c.key d) (xs ++ c ∷ [])) (filter (λ (c : KeyedRecord). same c.key d) (xs ++ c ∷ [])))
        ≡ cond b (map (λ (x : KeyedRecord). x.change) (cond a (x ∷ filter (λ (c : KeyedRecord). same c.key d) xs) (filter (λ (c : KeyedRecord). same c.key d) xs)) ++ c.change ∷ []) (map (λ (x : KeyedRecord). x.change) (cond a (x ∷ filter (λ (c : KeyedRecord). same c.key d) xs) (filter (λ (c : KeyedRecord). same c.key d) xs)))
    step true true h = ap (λ rs. x.change ∷ rs) h
    step true false h = ap (λ rs. x.change ∷ rs) h
    step false true h = h
    step false false h = h

named_more : (d : Datum) (done : List KeyedRecord) (c : KeyedRecord) → is_among (named_in (done ++ c ∷ [])) d ≡ (is_among (named_in done) d || same c.key d)
named_more d [] c = or_none (same c.key d)
named_more d (x ∷ xs) c = step (same x.key d) (named_more d xs c)
  where
    step : (b : Bool) → is_among (named_in (xs ++ c ∷ [])) d ≡ (is_among (named_in xs) d || same c.key d) → (b || is_among (named_in (xs ++ c ∷ [])) d) ≡ ((b || is_among (named_in xs) d) || same c.key d)
    step true h = refl
    step false h = h

module _ (old new : KeyedRecords) (done : List KeyedRecord) (c : KeyedRecord) (key : Value) (change : Record) (is_key : datum_of key ≡ c.key) (is_change : change ≡ c.change) where
  pub records_next : ((d : Datum) → records_at new d ≡ cond (same (datum_of key) d) (records_at old d ++ change ∷ []) (records_at old d)) → ((d : Datum) → records_at old d ≡ changes_at d done) → (d : Datum) → records_at new d ≡ changes_at d (done ++ c ∷ [])
  records_next push h d = push d ∙ rw (is_key, is_change, h d) (sym (changes_more d done c))

  pub names_next : ((d : Datum) → is_among (names_of new) d ≡ (is_among (names_of old) d || same (datum_of key) d)) → ((d : Datum) → is_among (names_of old) d ≡ is_among (named_in done) d) → (d : Datum) → is_among (names_of new) d ≡ is_among (named_in (done ++ c ∷ [])) d
  names_next push h d = push d ∙ rw (is_key, h d) (sym (named_more d done c))
