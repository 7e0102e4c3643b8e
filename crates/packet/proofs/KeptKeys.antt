-- A call of what is kept by values is one step of how keys stand.
use Rattle.std.proofs.Common.{◌≡◌, ℕ, zero, suc, Bool, true, false, cond, not, ◌&&◌, List, [], ◌∷◌, ◌++◌, map, replicate, slice_get, slice_set, Option, Some, None, ◌⊎◌, inl, inr, refl, ap, sym, ◌∙◌, subst}
use Rattle.std.specs.Prelude.{⊤}
use Rattle.std.specs.Option.{option_map}
use Rattle.std.specs.Map.{lookup}
use Rattle.std.specs.Set.{remove_key}
use Rattle.row.specs.Cells.{Datum, datum_of, same}
use Rattle.row.specs.Groups.{equal}
use Rattle.row.specs.declared.value.Value.{Value}
use Rattle.row.proofs.Cellwise.{eq-value_is}
use Rattle.row.proofs.Shards.{same_is}
use Rattle.partial.specs.States.{State, Hole, Waiting, Filled, Kept, state_of, order_of, OthersStay, GoesLast, after_piece, fills, completes, evicted, is_missing, is_whole, is_filled, begun, given}
use Rattle.packet.specs.Keys.{Stand, stands_of, by_datum, stand_of, begin_at, give_at, evict_at, with_stand}

-- ---- one key
abbrev pub blank : {E : Type 0} → List (Option E) → List (Option ⊤)
blank pieces = map (option_map (λ p. tt)) pieces

blank_none : (E : Type 0) (n : ℕ) → blank {E = E} (replicate n None) ≡ replicate n None
blank_none E zero = refl
blank_none E (suc n) = ap (λ ps. None ∷ ps) (blank_none E n)

blank_set : {E : Type 0} (pieces : List (Option E)) (s : ℕ) (p : Option E) → blank (slice_set pieces s p) ≡ slice_set (blank pieces) s (option_map (λ p. tt) p)
blank_set [] s p = refl
blank_set (x ∷ xs) zero p = refl
blank_set (x ∷ xs) (suc s) p = ap (λ ps. option_map (λ p. tt) x ∷ ps) (blank_set xs s p)

missing_is : {E : Type 0} (pieces : List (Option E)) (s : ℕ) → is_missing (slice_get (blank pieces) s) ≡ is_missing (slice_get pieces s)
missing_is [] s = refl
missing_is (None ∷ xs) zero = refl
missing_is (Some p ∷ xs) zero = refl
missing_is (x ∷ xs) (suc s) = missing_is xs s

whole_is : {E : Type 0} (pieces : List (Option E)) → is_whole (blank pieces) ≡ is_whole pieces
whole_is [] = refl
whole_is (None ∷ xs) = refl
whole_is (Some p ∷ xs) = whole_is xs

stand_begun : {E : Type 0} (n : ℕ) (st : State E) → stand_of (begun n st) ≡ begun n (stand_of st)
stand_begun {E} n Hole = ap Waiting (blank_none E n)
stand_begun n (Waiting pieces) = refl
stand_begun n (Filled e) = refl

stand_evicted : {E : Type 0} (source : Option ℕ) (st : State E) → stand_of (evicted source st) ≡ evicted source (stand_of st)
stand_evicted None Hole = refl
stand_evicted (Some s) Hole = refl
stand_evicted None (Waiting pieces) = refl
stand_evicted (Some s) (Waiting pieces) = ap Waiting (blank_set pieces s None)
stand_evicted None (Filled e) = refl
stand_evicted (Some s) (Filled e) = refl

module _ {E : Type 0} (sum : List E → E) (s : ℕ) (p : E) where
  abbrev none : List ⊤ → ⊤
  none pieces = tt

  given_is : (pieces : List (Option E)) → blank (given s p pieces) ≡ given s tt (blank pieces)
  given_is pieces = by (is_missing (slice_get pieces s)) refl
    where
      by : (m : Bool) → is_missing (slice_get pieces s) ≡ m → blank (given s p pieces) ≡ given s tt (blank pieces)
      by true e = rw (e, missing_is pieces s ∙ e) (blank_set pieces s (Some p))
      by false e = rw (e, missing_is pieces s ∙ e) refl

  completes_is : (pieces : List (Option E)) → completes s tt (blank pieces) ≡ completes s p pieces
  completes_is pieces = ap (λ m. m && is_whole (given s tt (blank pieces))) (missing_is pieces s) ∙ ap (λ w. is_missing (slice_get pieces s) && w) (ap is_whole (sym (given_is pieces)) ∙ whole_is (given s p pieces))

  stand_given : (st : State E) → stand_of (after_piece sum s p st) ≡ after_piece none s tt (stand_of st)
  stand_given Hole = refl
  stand_given (Filled e) = refl
  stand_given (Waiting pieces) = by (completes s p pieces) refl
    where
      by : (b : Bool) → completes s p pieces ≡ b → stand_of (after_piece sum s p (Waiting pieces)) ≡ after_piece none s tt (Waiting (blank pieces))
      by true e = rw (e, completes_is pieces ∙ e) refl
      by false e = rw (e, completes_is pieces ∙ e) (ap Waiting (given_is pieces))

  -- filled now, and not before
  fills_is : (st : State E) → (is_filled (after_piece none s tt (stand_of st)) && not (is_filled (stand_of st))) ≡ fills s p st
  fills_is Hole = refl
  fills_is (Filled e) = refl
  fills_is (Waiting pieces) = by (completes s p pieces) refl
    where
      by : (b : Bool) → completes s p pieces ≡ b → (is_filled (after_piece none s tt (Waiting (blank pieces))) && true) ≡ completes s p pieces
      by true e = rw (completes_is pieces ∙ e, e) refl
      by false e = rw (completes_is pieces ∙ e, e) refl

-- ---- all keys
pub lookup_is : {E : Type 0} (k : Value) (es : List (Value × E)) → lookup (same (datum_of k)) (by_datum es) ≡ lookup (equal k) es
lookup_is k [] = refl
lookup_is k (e ∷ es) = rw (eq-value_is k e.0, lookup_is k es) refl

pub stand_is : {E : Type 0} (kept : Kept Value E) (k : Value) → (stands_of kept).at (datum_of k) ≡ stand_of (state_of equal kept k)
stand_is kept k = ap stand_of (rw (lookup_is k kept.waiting, lookup_is k kept.filled) refl)

-- a datum that is found is a value's
record IsNamed (d : Datum) : Type 0 where
  value : Value
  is : datum_of value ≡ d

found : {E : Type 0} (d : Datum) (es : List (Value × E)) → IsNamed d ⊎ (lookup (same d) (by_datum es) ≡ None)
found d [] = inr refl
found {E} d (e ∷ es) = step (same d (datum_of e.0)) refl (found d es)
  where
    step : (b : Bool) → same d (datum_of e.0) ≡ b → IsNamed d ⊎ (lookup (same d) (by_datum es) ≡ None) → IsNamed d ⊎ (lookup (same d) (by_datum (e ∷ es)) ≡ None)
    step true h rest = inl (record { value = e.0; is = sym (same_is d (datum_of e.0) h) })
    step false h (inl n) = inl n
    step false h (inr n) = inr (rw (h) n)

-- a datum that is no value's is a hole
named_or_hole : {E : Type 0} (kept : Kept Value E) (d : Datum) → IsNamed d ⊎ ((stands_of kept).at d ≡ Hole)
named_or_hole kept d = step (found d kept.waiting) (found d kept.filled)
  where
    step : IsNamed d ⊎ (lookup (same d) (by_datum kept.waiting) ≡ None) → IsNamed d ⊎ (lookup (same d) (by_datum kept.filled) ≡ None) → IsNamed d ⊎ ((stands_of kept).at d ≡ Hole)
    step (inl n) y = inl n
    step (inr w) (inl n) = inl n
    step (inr w) (inr f) = inr (rw (w, f) refl)

-- what is known of each value is known of each datum, where a hole stays a hole
pub all_at : {E : Type 0} (f : Datum → Stand → Stand) (old new : Kept Value E) → ((d : Datum) → f d Hole ≡ Hole)
    → ((k : Value) → stand_of (state_of equal new k) ≡ f (datum_of k) (stand_of (state_of equal old k))) → (d : Datum) → (stands_of new).at d ≡ f d ((stands_of old).at d)
all_at f old new idle own d = step (named_or_hole old d) (named_or_hole new d)
  where
    by : IsNamed d → (stands_of new).at d ≡ f d ((stands_of old).at d)
    by n = subst (λ x. (stands_of new).at x ≡ f x ((stands_of old).at x)) n.is (stand_is new n.value ∙ (own n.value ∙ ap (f (datum_of n.value)) (sym (stand_is old n.value))))

    step : IsNamed d ⊎ ((stands_of old).at d ≡ Hole) → IsNamed d ⊎ ((stands_of new).at d ≡ Hole) → (stands_of new).at d ≡ f d ((stands_of old).at d)
    step (inl n) y = by n
    step (inr o) (inl n) = by n
    step (inr o) (inr n) = n ∙ (sym (idle d) ∙ ap (f d) (sym o))

-- nothing has changed but rows
pub keys_stay : {E : Type 0} (old new : Kept Value E) → ((k : Value) → stand_of (state_of equal new k) ≡ stand_of (state_of equal old k)) → order_of new ≡ order_of old → stands_of new ≡ stands_of old
keys_stay old new own order = λ i. record { at = λ d. all_at (λ x st. st) old new (λ x. refl) own d i; order = ap (map datum_of) order i }

module _ {E : Type 0} (old new : Kept Value E) (k : Value) (others : OthersStay equal k old new) where
  other_stays : (d : Datum) → same (datum_of k) d ≡ false → IsNamed d → (stands_of new).at d ≡ (stands_of old).at d
  other_stays d h n =
      let differs : equal k n.value ≡ false = eq-value_is k n.value ∙ (ap (same (datum_of k)) n.is ∙ h) in
      subst (λ x. (stands_of new).at x ≡ (stands_of old).at x) n.is (stand_is new n.value ∙ (ap stand_of (others n.value differs) ∙ sym (stand_is old n.value)))

  -- one key is changed by f, and the others stay
  moved : (f : Stand → Stand) → stand_of (state_of equal new k) ≡ f (stand_of (state_of equal old k)) → (d : Datum) → (stands_of new).at d ≡ with_stand (datum_of k) (f ((stands_of old).at (datum_of k))) (stands_of old) d
  moved f own d = step (same (datum_of k) d) refl
    where
      apart : same (datum_of k) d ≡ false → IsNamed d ⊎ ((stands_of old).at d ≡ Hole) → IsNamed d ⊎ ((stands_of new).at d ≡ Hole) → (stands_of new).at d ≡ (stands_of old).at d
      apart h (inl n) y = other_stays d h n
      apart h (inr o) (inl n) = other_stays d h n
      apart h (inr o) (inr n) = n ∙ sym o

      step : (b : Bool) → same (datum_of k) d ≡ b → (stands_of new).at d ≡ cond b (f ((stands_of old).at (datum_of k))) ((stands_of old).at d)
      step true h = subst (λ x. (stands_of new).at x ≡ f ((stands_of old).at (datum_of k))) (same_is (datum_of k) d h) (stand_is new k ∙ (own ∙ ap f (sym (stand_is old k))))
      step false h = apart h (named_or_hole old d) (named_or_hole new d)

  -- `Partial::begin`
  pub begin_is : (n : ℕ) → state_of equal new k ≡ begun n (state_of equal old k) → order_of new ≡ order_of old → stands_of new ≡ begin_at n (datum_of k) (stands_of old)
  begin_is n own order = λ i. record { at = λ d. moved (begun n) (ap stand_of own ∙ stand_begun n (state_of equal old k)) d i; order = ap (map datum_of) order i }

  removed_is : (xs : List Value) → map datum_of (remove_key (equal k) xs) ≡ remove_key (same (datum_of k)) (map datum_of xs)
  removed_is [] = refl
  removed_is (x ∷ xs) = rw (← eq-value_is k x) (step (equal k x) (removed_is xs))
    where
      step : (b : Bool) → map datum_of (remove_key (equal k) xs) ≡ remove_key (same (datum_of k)) (map datum_of xs)
          → map datum_of (cond b xs (x ∷ remove_key (equal k) xs)) ≡ cond b (map datum_of xs) (datum_of x ∷ remove_key (same (datum_of k)) (map datum_of xs))
      step true r = refl
      step false r = ap (λ ds. datum_of x ∷ ds) r

  -- `Partial::evict`
  pub evict_is : (source : Option ℕ) → state_of equal new k ≡ evicted source (state_of equal old k) → order_of new ≡ remove_key (equal k) (order_of old) → stands_of new ≡ evict_at source (datum_of k) (stands_of old)
  evict_is source own order = λ i. record { at = λ d. moved (evicted source) (ap stand_of own ∙ stand_evicted source (state_of equal old k)) d i; order = (ap (map datum_of) order ∙ removed_is (order_of old)) i }

  map_push : (xs : List Value) (x : Value) → map datum_of (xs ++ x ∷ []) ≡ map datum_of xs ++ datum_of x ∷ []
  map_push [] x = refl
  map_push (y ∷ ys) x = ap (λ ds. datum_of y ∷ ds) (map_push ys x)

  -- `Partial::give_piece`
  pub give_is : (sum : List E → E) (s : ℕ) (p : E) → state_of equal new k ≡ after_piece sum s p (state_of equal old k)
      → (fills s p (state_of equal old k) ≡ true → GoesLast equal k (order_of old) (order_of new)) → (fills s p (state_of equal old k) ≡ false → order_of new ≡ order_of old)
      → stands_of new ≡ give_at s (datum_of k) (stands_of old)
  give_is sum s p own last stays =
      λ i. record {
        at = λ d. moved (after_piece (none sum s p) s tt) (ap stand_of own ∙ stand_given sum s p (state_of equal old k)) d i;
        order = (by (fills s p (state_of equal old k)) refl ∙ sym (ap (λ b. cond b ((stands_of old).order ++ datum_of k ∷ []) (stands_of old).order) goes)) i;
      }
    where
      goes : (is_filled (after_piece (none sum s p) s tt ((stands_of old).at (datum_of k))) && not (is_filled ((stands_of old).at (datum_of k)))) ≡ fills s p (state_of equal old k)
      goes = ap (λ st. is_filled (after_piece (none sum s p) s tt st) && not (is_filled st)) (stand_is old k) ∙ fills_is sum s p (state_of equal old k)

      by : (b : Bool) → fills s p (state_of equal old k) ≡ b → map datum_of (order_of new) ≡ cond b ((stands_of old).order ++ datum_of k ∷ []) (stands_of old).order
      by true e =
          let g = last e in
          let same_key : datum_of g.0 ≡ datum_of k = sym (same_is (datum_of k) (datum_of g.0) (sym (eq-value_is k g.0) ∙ g.1)) in
          ap (map datum_of) g.2 ∙ (map_push (order_of old) g.0 ∙ ap (λ d. map datum_of (order_of old) ++ d ∷ []) same_key)
      by false e = ap (map datum_of) (stays e)
