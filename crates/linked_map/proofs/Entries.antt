-- The entries of a table in the order of a list of positions.
use Rattle.std.proofs.Common.{◌≡◌, ℕ, zero, suc, ◌-◌, ◌<◌, ◌≤◌, inl, inr, Bool, true, false, cond, List, [], ◌∷◌, ◌++◌, Option, Some, None, length, map, get_or, slice_get, swap_remove, take, unwrap_or, position, is_some, refl, sym, ap, subst, ◌∙◌, arith, true≢false}
use Rattle.std.specs.Cmp.{IsEquivalence}
use Rattle.std.specs.List.{IsDistinct, AllByRecursion}
use Rattle.std.specs.Option.{option_map, option_map_or}
use Rattle.std.specs.Map.{keys_of, lookup, lookup_entry, lookup_key, remove_entry, set_value}
use Rattle.std.proofs.lemmas.Bool.{cases_eq}
use Rattle.std.proofs.lemmas.List.{length-set, length-take-le}
use Rattle.std.proofs.lemmas.Option.{slice_get-get_or, slice_get-map}
use Rattle.std.proofs.lemmas.Map.Keys.{IsDistinct-head, IsDistinct-tail, IsDistinct-cons}
use Rattle.indexmap.specs.Layout.{set_value_at}
use Rattle.indexmap.proofs.MapLemmas.{Found-position, Missing-position}
use Rattle.linked_map.specs.Orders.{times, without, renamed, entries_at}
use Rattle.linked_map.proofs.Counting.{if_same, if_apart, times-same, times-apart, times-le, Each, Each-from, none_is}
use Rattle.linked_map.proofs.Links.{moved_item}

some_same : {A : Type 0} {x y : A} → Some x ≡ Some y → x ≡ y
some_same {A} {x} {y} e = ap (λ o. unwrap_or o x) e

some_is_none : {A : Type 0} {x : A} → Some x ≡ None → ⊥
some_is_none e = true≢false (ap is_some e)

-- ---- entries at positions
module _ {X : Type 0} where
  pub some_at : (es : List X) (p : ℕ) → p < length es → (e : X) × (slice_get es p ≡ Some e)
  some_at [] p h = absurd (omega (arith, h))
  some_at (e ∷ es) p h = (get_or (e ∷ es) p e, slice_get-get_or (e ∷ es) p e h)

  entries-cons : (es : List X) (p : ℕ) (ps : List ℕ) (e : X) → slice_get es p ≡ Some e → entries_at es (p ∷ ps) ≡ e ∷ entries_at es ps
  entries-cons es p ps e h = ap (λ o. option_map_or (λ x. x ∷ entries_at es ps) o (entries_at es ps)) h

  entries-skip : (es : List X) (p : ℕ) (ps : List ℕ) → slice_get es p ≡ None → entries_at es (p ∷ ps) ≡ entries_at es ps
  entries-skip es p ps h = ap (λ o. option_map_or (λ x. x ∷ entries_at es ps) o (entries_at es ps)) h

  abbrev pub Inside : List X → List ℕ → Type 0
  Inside es ps = Each (λ p. p < length es) ps

  pub length-entries : (es : List X) (ps : List ℕ) → Inside es ps → length (entries_at es ps) ≡ length ps
  length-entries es [] h = refl
  length-entries es (p ∷ ps) h = let e = some_at es p h.0 in ap length (entries-cons es p ps e.0 e.1) ∙ ap suc (length-entries es ps h.1)

  pub entry_of_place : (es : List X) (ps : List ℕ) (k p : ℕ) → Inside es ps → slice_get ps k ≡ Some p → slice_get (entries_at es ps) k ≡ slice_get es p
  entry_of_place es [] k p h at = absurd (some_is_none (sym at))
  entry_of_place es (q ∷ ps) zero p h at =
      let e = some_at es q h.0 in ap (λ l. slice_get l 0) (entries-cons es q ps e.0 e.1) ∙ sym e.1 ∙ ap (slice_get es) (some_same at)
  entry_of_place es (q ∷ ps) (suc k) p h at =
      let e = some_at es q h.0 in ap (λ l. slice_get l (suc k)) (entries-cons es q ps e.0 e.1) ∙ entry_of_place es ps k p h.1 at

  pub entries_agree : (es fs : List X) (ps : List ℕ) → Each (λ p. slice_get fs p ≡ slice_get es p) ps → entries_at fs ps ≡ entries_at es ps
  entries_agree es fs [] h = refl
  entries_agree es fs (p ∷ ps) h =
      ap (λ o. option_map_or (λ x. x ∷ entries_at fs ps) o (entries_at fs ps)) h.0
      ∙ ap (λ l. option_map_or (λ x. x ∷ l) (slice_get es p) l) (entries_agree es fs ps h.1)

  pub entries_carried : (es fs : List X) (f : ℕ → ℕ) (ps : List ℕ) → Each (λ p. slice_get fs (f p) ≡ slice_get es p) ps → entries_at fs (map f ps) ≡ entries_at es ps
  entries_carried es fs f [] h = refl
  entries_carried es fs f (p ∷ ps) h =
      ap (λ o. option_map_or (λ x. x ∷ entries_at fs (map f ps)) o (entries_at fs (map f ps))) h.0
      ∙ ap (λ l. option_map_or (λ x. x ∷ l) (slice_get es p) l) (entries_carried es fs f ps h.1)

  pub entries-take : (es : List X) (ps : List ℕ) (k : ℕ) → Inside es ps → entries_at es (take k ps) ≡ take k (entries_at es ps)
  entries-take es ps zero h = refl
  entries-take es [] (suc k) h = refl
  entries-take es (p ∷ ps) (suc k) h =
      let e = some_at es p h.0 in
      entries-cons es p (take k ps) e.0 e.1 ∙ ap (λ l. e.0 ∷ l) (entries-take es ps k h.1) ∙ sym (ap (take (suc k)) (entries-cons es p ps e.0 e.1))

  -- an entry that goes behind all others in the table
  get-push : (es : List X) (x : X) (p : ℕ) → p < length es → slice_get (es ++ x ∷ []) p ≡ slice_get es p
  get-push [] x p h = absurd (omega (arith, h))
  get-push (e ∷ es) x zero h = refl
  get-push (e ∷ es) x (suc p) h = get-push es x p (omega (arith, h))

  get-last : (es : List X) (x : X) → slice_get (es ++ x ∷ []) (length es) ≡ Some x
  get-last [] x = refl
  get-last (e ∷ es) x = get-last es x

  each_push : (es : List X) (x : X) (ps : List ℕ) → Inside es ps → Each (λ p. slice_get (es ++ x ∷ []) p ≡ slice_get es p) ps
  each_push es x [] h = tt
  each_push es x (p ∷ ps) h = (get-push es x p h.0, each_push es x ps h.1)

  pub entries-push : (es : List X) (x : X) (ps : List ℕ) → Inside es ps → entries_at (es ++ x ∷ []) (length es ∷ ps) ≡ x ∷ entries_at es ps
  entries-push es x ps h =
      entries-cons (es ++ x ∷ []) (length es) ps x (get-last es x) ∙ ap (λ l. x ∷ l) (entries_agree es (es ++ x ∷ []) ps (each_push es x ps h))

  -- the last entry moves to the place of one that is taken out
  get_moved : (es : List X) (i q : ℕ) (d : X) → i < length es → q < length es → (q ≡ i → ⊥) → slice_get (swap_remove es i d) (renamed (length es - 1) i q) ≡ slice_get es q
  get_moved es i q d inside below apart =
      let m = length es - 1 in
      let n : length (swap_remove es i d) ≡ m = length-take-le m _ (let k = length-set es i (get_or es m d) in omega (arith, k)) in
      let within : renamed m i q < m = elim (cases_eq q m) [
        | inl f ↦ let r = if_same q m i q f in omega (arith, r, inside, let ne : m ≡ i → ⊥ = (λ g. apart (f ∙ g)) in ne)
        | inr f ↦ let r = if_apart q m i q f in omega (arith, r, below, f)
      ] in
      slice_get-get_or (swap_remove es i d) (renamed m i q) d (omega (arith, n, within)) ∙ ap Some (moved_item es i q d d inside below apart) ∙ sym (slice_get-get_or es q d below)

  pub entries_removed : (es : List X) (i : ℕ) (d : X) (ps : List ℕ) → i < length es → Each (λ p. p < length es) ps → Each (λ p. p ≡ i → ⊥) ps
      → entries_at (swap_remove es i d) (map (renamed (length es - 1) i) ps) ≡ entries_at es ps
  entries_removed es i d ps inside below apart = entries_carried es (swap_remove es i d) (renamed (length es - 1) i) ps (by ps below apart)
    where
      by : (qs : List ℕ) → Each (λ p. p < length es) qs → Each (λ p. p ≡ i → ⊥) qs → Each (λ p. slice_get (swap_remove es i d) (renamed (length es - 1) i p) ≡ slice_get es p) qs
      by [] b a = tt
      by (q ∷ qs) b a = (get_moved es i q d inside b.0 a.0, by qs b.1 a.1)

-- without the last position
pub there_at : (ps : List ℕ) (k p : ℕ) → slice_get ps k ≡ Some p → 0 < times p ps
there_at [] k p h = absurd (some_is_none (sym h))
there_at (q ∷ ps) zero p h = let n = times-same p q ps (some_same h) in omega (arith, n)
there_at (q ∷ ps) (suc k) p h = let r = there_at ps k p h in let n = times-le p q ps in omega (arith, n, r)

pub without_last : (ps : List ℕ) (p : ℕ) → slice_get ps (length ps - 1) ≡ Some p → times p ps ≤ 1 → without p ps ≡ take (length ps - 1) ps
without_last [] p h one = refl
without_last (q ∷ []) p h one = if_same q p [] (q ∷ []) (some_same h)
without_last (q ∷ r ∷ ps) p h one =
    let k : length (q ∷ r ∷ ps) - 1 ≡ suc (length ps) = omega arith in
    let later : slice_get (r ∷ ps) (length ps) ≡ Some p = ap (slice_get (q ∷ r ∷ ps)) (sym k) ∙ h in
    let j : length (r ∷ ps) - 1 ≡ length ps = omega arith in
    let there = there_at (r ∷ ps) (length ps) p later in
    let apart : q ≡ p → ⊥ = (λ e. let n = times-same p q (r ∷ ps) e in omega (arith, n, there, one)) in
    let n = times-apart p q (r ∷ ps) apart in
    if_apart q p (r ∷ ps) (q ∷ without p (r ∷ ps)) apart
    ∙ ap (λ l. q ∷ l) (without_last (r ∷ ps) p (ap (slice_get (r ∷ ps)) j ∙ later) (omega (arith, n, one)) ∙ ap (λ z. take z (r ∷ ps)) j)
    ∙ ap (λ z. take z (q ∷ r ∷ ps)) (sym k)

-- ---- look-ups
module _ {K V : Type 0} (test : K → Bool) where
  pub lookup_by_entry : (es : List (K × V)) → lookup test es ≡ option_map (λ e. e.1) (lookup_entry test es)
  lookup_by_entry [] = refl
  lookup_by_entry (e ∷ es) = by (test e.0) (lookup_by_entry es)
    where
      by : (b : Bool) → lookup test es ≡ option_map (λ f. f.1) (lookup_entry test es) → cond b (Some e.1) (lookup test es) ≡ option_map (λ f. f.1) (cond b (Some e) (lookup_entry test es))
      by true h = refl
      by false h = h

  passes : (es : List (K × V)) (k : K) → lookup_key test es ≡ Some k → test k ≡ true
  passes [] k h = absurd (some_is_none (sym h))
  passes (e ∷ es) k h = by (test e.0) refl h (passes es k)
    where
      by : (b : Bool) → test e.0 ≡ b → cond b (Some e.0) (lookup_key test es) ≡ Some k → (lookup_key test es ≡ Some k → test k ≡ true) → test k ≡ true
      by true t h rest = ap test (sym (some_same h)) ∙ t
      by false t h rest = rest h

  -- no entry of the table passes
  abbrev pub Absent : List (K × V) → Type 0
  Absent es = (p : ℕ) (e : K × V) → slice_get es p ≡ Some e → test e.0 ≡ false

  -- the entry at i passes, and no other
  pub record IsSole (es : List (K × V)) (i : ℕ) (e : K × V) : Type 0 where
    pub at : slice_get es i ≡ Some e
    pub passes : test e.0 ≡ true
    pub others : (p : ℕ) (f : K × V) → slice_get es p ≡ Some f → (p ≡ i → ⊥) → test f.0 ≡ false

  fails : (es : List (K × V)) → lookup_key test es ≡ None → Absent es
  fails [] h p e at = absurd (some_is_none (sym at))
  fails (x ∷ es) h p e at = by (test x.0) refl h (fails es) p at
    where
      by : (b : Bool) → test x.0 ≡ b → cond b (Some x.0) (lookup_key test es) ≡ None → (lookup_key test es ≡ None → Absent es) → (p : ℕ) → slice_get (x ∷ es) p ≡ Some e → test e.0 ≡ false
      by true t h rest p at = absurd (some_is_none h)
      by false t h rest zero at = ap (λ y. test y.0) (sym (some_same at)) ∙ t
      by false t h rest (suc p) at = rest h p e at

  pub missed : (es : List (K × V)) → position test (keys_of es) ≡ None → Absent es
  missed es h = fails es (Missing-position test es h).key

  pub absent_lookup : (es : List (K × V)) (ps : List ℕ) → Absent es → lookup_entry test (entries_at es ps) ≡ None
  absent_lookup es [] a = refl
  absent_lookup es (p ∷ ps) a = by (slice_get es p) refl (absent_lookup es ps a)
    where
      by : (o : Option (K × V)) → slice_get es p ≡ o → lookup_entry test (entries_at es ps) ≡ None → lookup_entry test (entries_at es (p ∷ ps)) ≡ None
      by None h rest = ap (lookup_entry test) (entries-skip es p ps h) ∙ rest
      by (Some e) h rest = ap (lookup_entry test) (entries-cons es p ps e h) ∙ ap (λ b. cond b (Some e) (lookup_entry test (entries_at es ps))) (a p e h) ∙ rest

  pub absent_remove : (es : List (K × V)) → lookup_entry test es ≡ None → remove_entry test es ≡ es
  absent_remove [] h = refl
  absent_remove (e ∷ es) h = by (test e.0) h (absent_remove es)
    where
      by : (b : Bool) → cond b (Some e) (lookup_entry test es) ≡ None → (lookup_entry test es ≡ None → remove_entry test es ≡ es) → cond b es (e ∷ remove_entry test es) ≡ e ∷ es
      by true h rest = absurd (some_is_none h)
      by false h rest = ap (λ l. e ∷ l) (rest h)

  module _ (es : List (K × V)) (i : ℕ) (e : K × V) (sole : IsSole es i e) where
    pub sole_lookup : (ps : List ℕ) → 0 < times i ps → lookup_entry test (entries_at es ps) ≡ Some e
    sole_lookup [] h = absurd (omega (arith, h))
    sole_lookup (p ∷ ps) h = elim (cases_eq p i) [
      | inl same ↦ ap (lookup_entry test) (entries-cons es p ps e (ap (slice_get es) same ∙ sole.at)) ∙ ap (λ b. cond b (Some e) (lookup_entry test (entries_at es ps))) sole.passes
      | inr apart ↦ by (slice_get es p) refl apart (sole_lookup ps (let n = times-apart i p ps apart in omega (arith, n, h)))
    ]
      where
        by : (o : Option (K × V)) → slice_get es p ≡ o → (p ≡ i → ⊥) → lookup_entry test (entries_at es ps) ≡ Some e → lookup_entry test (entries_at es (p ∷ ps)) ≡ Some e
        by None g apart rest = ap (lookup_entry test) (entries-skip es p ps g) ∙ rest
        by (Some f) g apart rest = ap (lookup_entry test) (entries-cons es p ps f g) ∙ ap (λ b. cond b (Some f) (lookup_entry test (entries_at es ps))) (sole.others p f g apart) ∙ rest

    pub sole_removed : (ps : List ℕ) → entries_at es (without i ps) ≡ remove_entry test (entries_at es ps)
    sole_removed [] = refl
    sole_removed (p ∷ ps) = elim (cases_eq p i) [
      | inl same ↦ ap (entries_at es) (if_same p i ps (p ∷ without i ps) same)
          ∙ sym (ap (remove_entry test) (entries-cons es p ps e (ap (slice_get es) same ∙ sole.at)) ∙ ap (λ b. cond b (entries_at es ps) (e ∷ remove_entry test (entries_at es ps))) sole.passes)
      | inr apart ↦ ap (entries_at es) (if_apart p i ps (p ∷ without i ps) apart) ∙ by (slice_get es p) refl apart (sole_removed ps)
    ]
      where
        by : (o : Option (K × V)) → slice_get es p ≡ o → (p ≡ i → ⊥) → entries_at es (without i ps) ≡ remove_entry test (entries_at es ps) → entries_at es (p ∷ without i ps) ≡ remove_entry test (entries_at es (p ∷ ps))
        by None g apart rest = entries-skip es p (without i ps) g ∙ rest ∙ sym (ap (remove_entry test) (entries-skip es p ps g))
        by (Some f) g apart rest =
            entries-cons es p (without i ps) f g ∙ ap (λ l. f ∷ l) rest
            ∙ sym (ap (remove_entry test) (entries-cons es p ps f g) ∙ ap (λ b. cond b (entries_at es ps) (f ∷ remove_entry test (entries_at es ps))) (sole.others p f g apart))

-- ---- a value that is written
module _ {K V : Type 0} where
  get_set : (es : List (K × V)) (i : ℕ) (e : K × V) (w : V) → slice_get es i ≡ Some e → slice_get (set_value_at es i w) i ≡ Some (e.0, w)
  get_set [] i e w h = absurd (some_is_none (sym h))
  get_set (x ∷ es) zero e w h = ap (λ y. Some (y.0, w)) (some_same h)
  get_set (x ∷ es) (suc i) e w h = get_set es i e w h

  get_unset : (es : List (K × V)) (i q : ℕ) (w : V) → (q ≡ i → ⊥) → slice_get (set_value_at es i w) q ≡ slice_get es q
  get_unset [] i q w h = refl
  get_unset (x ∷ es) zero zero w h = absurd (h refl)
  get_unset (x ∷ es) zero (suc q) w h = refl
  get_unset (x ∷ es) (suc i) zero w h = refl
  get_unset (x ∷ es) (suc i) (suc q) w h = get_unset es i q w (λ e. h (ap suc e))

  each_unset : (es : List (K × V)) (i : ℕ) (w : V) (ps : List ℕ) → Each (λ p. p ≡ i → ⊥) ps → Each (λ p. slice_get (set_value_at es i w) p ≡ slice_get es p) ps
  each_unset es i w [] h = tt
  each_unset es i w (p ∷ ps) h = (get_unset es i p w h.0, each_unset es i w ps h.1)

  pub entries_front : (es : List (K × V)) (i : ℕ) (e : K × V) (w : V) (ps : List ℕ) → slice_get es i ≡ Some e → Each (λ p. p ≡ i → ⊥) ps → entries_at (set_value_at es i w) (i ∷ ps) ≡ (e.0, w) ∷ entries_at es ps
  entries_front es i e w ps h apart =
      entries-cons (set_value_at es i w) i ps (e.0, w) (get_set es i e w h) ∙ ap (λ l. (e.0, w) ∷ l) (entries_agree es (set_value_at es i w) ps (each_unset es i w ps apart))

  -- the same without a move: the value is written where the entry stands
  module _ (test : K → Bool) (es : List (K × V)) (i : ℕ) (e : K × V) (w : V) (sole : IsSole test es i e) where
    pub entries_written : (ps : List ℕ) → ((q : ℕ) → times q ps ≤ 1) → entries_at (set_value_at es i w) ps ≡ set_value test (entries_at es ps) w
    entries_written [] one = refl
    entries_written (p ∷ ps) one = elim (cases_eq p i) [
      | inl same ↦ let none : times i ps ≡ 0 = (let n = times-same i p ps same in let o = one i in omega (arith, n, o)) in
          entries-cons (set_value_at es i w) p ps (e.0, w) (ap (slice_get (set_value_at es i w)) same ∙ get_set es i e w sole.at)
          ∙ ap (λ l. (e.0, w) ∷ l) (entries_agree es (set_value_at es i w) ps (each_unset es i w ps (Each-from _ ps (none_is i ps none))))
          ∙ sym (ap (λ l. set_value test l w) (entries-cons es p ps e (ap (slice_get es) same ∙ sole.at))
          ∙ ap (λ b. cond b ((e.0, w) ∷ entries_at es ps) (e ∷ set_value test (entries_at es ps) w)) sole.passes)
      | inr apart ↦ by (slice_get es p) refl apart (entries_written ps (λ q. let n = times-le q p ps in let o = one q in omega (arith, n, o)))
    ]
      where
        by : (o : Option (K × V)) → slice_get es p ≡ o → (p ≡ i → ⊥) → entries_at (set_value_at es i w) ps ≡ set_value test (entries_at es ps) w
            → entries_at (set_value_at es i w) (p ∷ ps) ≡ set_value test (entries_at es (p ∷ ps)) w
        by None g apart rest =
            entries-skip (set_value_at es i w) p ps (get_unset es i p w apart ∙ g) ∙ rest ∙ sym (ap (λ l. set_value test l w) (entries-skip es p ps g))
        by (Some f) g apart rest =
            entries-cons (set_value_at es i w) p ps f (get_unset es i p w apart ∙ g) ∙ ap (λ l. f ∷ l) rest
            ∙ sym (ap (λ l. set_value test l w) (entries-cons es p ps f g) ∙ ap (λ b. cond b ((f.0, w) ∷ entries_at es ps) (f ∷ set_value test (entries_at es ps) w)) (sole.others p f g apart))

-- ---- distinct keys
nothing_distinct : {K : Type 0} (eq : K → K → Bool) → IsDistinct eq []
unfolding IsDistinct
nothing_distinct eq = tt

module _ {K V : Type 0} {eq : K → K → Bool} (laws : IsEquivalence eq) where
  later_apart : (es : List (K × V)) (k : K) (q : ℕ) (f : K × V) → AllByRecursion (λ y. eq k y ≡ false) (keys_of es) → slice_get es q ≡ Some f → eq k f.0 ≡ false
  later_apart [] k q f a h = absurd (some_is_none (sym h))
  later_apart (x ∷ es) k zero f a h = ap (λ y. eq k y.0) (sym (some_same h)) ∙ a.0
  later_apart (x ∷ es) k (suc q) f a h = later_apart es k q f a.1 h

  apart_at : (es : List (K × V)) (p q : ℕ) (e f : K × V) → IsDistinct eq (keys_of es) → slice_get es p ≡ Some e → slice_get es q ≡ Some f → (p ≡ q → ⊥) → eq e.0 f.0 ≡ false
  apart_at [] p q e f d hp hq ne = absurd (some_is_none (sym hp))
  apart_at (x ∷ es) zero zero e f d hp hq ne = absurd (ne refl)
  apart_at (x ∷ es) zero (suc q) e f d hp hq ne = ap (λ y. eq y.0 f.0) (sym (some_same hp)) ∙ later_apart es x.0 q f (IsDistinct-head eq x.0 (keys_of es) d) hq
  apart_at (x ∷ es) (suc p) zero e f d hp hq ne =
      laws.symm e.0 f.0 ∙ ap (λ y. eq y.0 e.0) (sym (some_same hq)) ∙ later_apart es x.0 p e (IsDistinct-head eq x.0 (keys_of es) d) hp
  apart_at (x ∷ es) (suc p) (suc q) e f d hp hq ne = apart_at es p q e f (IsDistinct-tail eq x.0 (keys_of es) d) hp hq (λ s. ne (ap suc s))

  -- the entry of a key
  pub found : (k : K) (es : List (K × V)) (i : ℕ) → IsDistinct eq (keys_of es) → position (eq k) (keys_of es) ≡ Some i → (e : K × V) × IsSole (eq k) es i e
  found k es i d h =
      let f = Found-position (eq k) es i h in
      let at = some_at es i f.within in
      let key : lookup_key (eq k) es ≡ Some at.0.0 = f.key ∙ slice_get-map (λ (e : K × V). e.0) es i ∙ ap (option_map (λ (e : K × V). e.0)) at.1 in
      let is = passes (eq k) es at.0.0 key in
      (at.0, record { at = at.1; passes = is; others = λ p g hp ne. laws.congr k at.0.0 g.0 is ∙ apart_at es i p at.0 g d at.1 hp (λ s. ne (sym s)) })

  keys_apart : (es : List (K × V)) (p : ℕ) (e : K × V) (ps : List ℕ) → IsDistinct eq (keys_of es) → slice_get es p ≡ Some e → Each (λ q. q ≡ p → ⊥) ps → AllByRecursion (λ y. eq e.0 y ≡ false) (keys_of (entries_at es ps))
  keys_apart es p e [] d h a = tt
  keys_apart es p e (q ∷ ps) d h a = by (slice_get es q) refl (keys_apart es p e ps d h a.1)
    where
      by : (o : Option (K × V)) → slice_get es q ≡ o → AllByRecursion (λ y. eq e.0 y ≡ false) (keys_of (entries_at es ps)) → AllByRecursion (λ y. eq e.0 y ≡ false) (keys_of (entries_at es (q ∷ ps)))
      by None g rest = subst (λ l. AllByRecursion (λ y. eq e.0 y ≡ false) (keys_of l)) (sym (entries-skip es q ps g)) rest
      by (Some f) g rest = subst (λ l. AllByRecursion (λ y. eq e.0 y ≡ false) (keys_of l)) (sym (entries-cons es q ps f g)) (apart_at es p q e f d h g (λ s. a.0 (sym s)), rest)

  pub distinct_entries : (es : List (K × V)) (ps : List ℕ) → IsDistinct eq (keys_of es) → ((q : ℕ) → times q ps ≤ 1) → IsDistinct eq (keys_of (entries_at es ps))
  distinct_entries es [] d one = nothing_distinct eq
  distinct_entries es (p ∷ ps) d one = by (slice_get es p) refl (distinct_entries es ps d (λ q. let n = times-le q p ps in let o = one q in omega (arith, n, o)))
    where
      by : (o : Option (K × V)) → slice_get es p ≡ o → IsDistinct eq (keys_of (entries_at es ps)) → IsDistinct eq (keys_of (entries_at es (p ∷ ps)))
      by None g rest = subst (λ l. IsDistinct eq (keys_of l)) (sym (entries-skip es p ps g)) rest
      by (Some e) g rest =
          let none : times p ps ≡ 0 = (let n = times-same p p ps refl in let o = one p in omega (arith, n, o)) in
          subst (λ l. IsDistinct eq (keys_of l)) (sym (entries-cons es p ps e g))
          (IsDistinct-cons eq e.0 (keys_of (entries_at es ps)) (keys_apart es p e ps d g (Each-from _ ps (none_is p ps none))) rest)
