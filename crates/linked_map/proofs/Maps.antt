-- What each call makes of the entries, seen from the latest on.
use Rattle.std.proofs.Common.{◌+◌, reverse, ◌≡◌, ℕ, zero, suc, ◌-◌, ◌<◌, Bool, List, [], ◌∷◌, ◌++◌, Option, Some, None, length, map, slice_get, swap_remove, take, refl, sym, ap, ◌∙◌, arith}
use Rattle.std.specs.Cmp.{IsEquivalence}
use Rattle.std.specs.List.{IsDistinct}
use Rattle.std.specs.Option.{option_map, option_map_or}
use Rattle.std.specs.Map.{keys_of, lookup, lookup_entry, remove_entry, set_value}
use Rattle.std.proofs.lemmas.List.{length-map, reverse-append, take_all, take_more}
use Rattle.std.proofs.lemmas.Option.{slice_get_within, get_or_from_slice_get}
use Rattle.indexmap.specs.Layout.{set_value_at}
use Rattle.linked_map.specs.Orders.{times, without, renamed, IsOrder, entries_at}
use Rattle.linked_map.specs.LinkedMap.{put_entries, last_entry}
use Rattle.linked_map.proofs.Counting.{if_same, times-without, length-without, Each, Each-from, none_is, is_there, is_below, at_most_once}
use Rattle.linked_map.proofs.Entries.{Inside, Absent, IsSole, length-entries, entry_of_place, entries-take, entries-push, entries_removed, entries_front, entries_written, without_last, there_at, lookup_by_entry, absent_lookup, absent_remove, sole_lookup, sole_removed, distinct_entries}

reverse_taken : {X : Type 0} (xs : List X) (k : ℕ) (x : X) → slice_get xs k ≡ Some x → reverse (take (suc k) xs) ≡ x ∷ reverse (take k xs)
reverse_taken xs k x h =
    let n : suc k ≡ k + 1 = omega arith in
    ap (λ j. reverse (take j xs)) n
    ∙ ap reverse (take_more xs k x (slice_get_within xs k x h) ∙ ap (λ y. take k xs ++ y ∷ []) (get_or_from_slice_get xs k x x h))
    ∙ reverse-append (take k xs) (x ∷ [])

module _ {K V : Type 0} (es : List (K × V)) (ps : List ℕ) (order : IsOrder ps) (len : length ps ≡ length es) where
  inside : Inside es ps
  inside = Each-from _ ps (λ q h. let b = is_below ps order q h in omega (arith, b, len))

  there : (i : ℕ) → i < length es → times i ps ≡ 1
  there i h = is_there ps order i (omega (arith, h, len))

  apart : (i : ℕ) → i < length es → Each (λ p. p ≡ i → ⊥) (without i ps)
  apart i h =
      let t = there i h in
      let s = times-without i i ps (omega (arith, t)) in
      let o = if_same {A = ℕ} i i 1 0 refl in
      Each-from _ (without i ps) (none_is i (without i ps) (omega (arith, s, t, o)))

  others_inside : (i : ℕ) → i < length es → Inside es (without i ps)
  others_inside i h =
      Each-from _ (without i ps) (λ q l. let t = there i h in let s = times-without i q ps (omega (arith, t)) in let b = is_below ps order q (omega (arith, s, l)) in omega (arith, b, len))

  pub seen : length (entries_at es ps) ≡ length ps
  seen = length-entries es ps inside

  pub once : {eq : K → K → Bool} → IsEquivalence eq → IsDistinct eq (keys_of es) → IsDistinct eq (keys_of (entries_at es ps))
  once laws d = distinct_entries laws es ps d (at_most_once ps order)

  -- a position that stands at the place k, and its entry
  pub placed : (k p : ℕ) → slice_get ps k ≡ Some p → p < length es
  placed k p at = let t = there_at ps k p at in let b = is_below ps order p t in omega (arith, b, len)

  pub walked : (k p : ℕ) (e : K × V) → slice_get ps k ≡ Some p → slice_get es p ≡ Some e → reverse (take (suc k) (entries_at es ps)) ≡ e ∷ reverse (take k (entries_at es ps))
  walked k p e at is = reverse_taken (entries_at es ps) k e (entry_of_place es ps k p inside at ∙ is)

  pub whole : (n : ℕ) → n ≡ length ps → take n (entries_at es ps) ≡ entries_at es ps
  whole n is = take_all n (entries_at es ps) (let s = seen in omega (arith, is, s))

  -- a key that is there
  module _ (eq : K → K → Bool) (k : K) (i : ℕ) (e : K × V) (sole : IsSole (eq k) es i e) where
    within : i < length es
    within = slice_get_within es i e sole.at

    hit : lookup_entry (eq k) (entries_at es ps) ≡ Some e
    hit = sole_lookup (eq k) es i e sole ps (let t = there i within in omega (arith, t))

    pub hit_value : lookup (eq k) (entries_at es ps) ≡ Some e.1
    hit_value = lookup_by_entry (eq k) (entries_at es ps) ∙ ap (option_map (λ (f : K × V). f.1)) hit

    pub hit_removed : entries_at es (without i ps) ≡ remove_entry (eq k) (entries_at es ps)
    hit_removed = sole_removed (eq k) es i e sole ps

    pub hit_written : (v : V) → entries_at (set_value_at es i v) ps ≡ set_value (eq k) (entries_at es ps) v
    hit_written v = entries_written (eq k) es i e v sole ps (at_most_once ps order)

    pub put_hit : (v : V) → entries_at (set_value_at es i v) (i ∷ without i ps) ≡ put_entries eq (entries_at es ps) k v
    put_hit v =
        entries_front es i e v (without i ps) sole.at (apart i within)
        ∙ ap (λ l. (e.0, v) ∷ l) hit_removed
        ∙ sym (ap (λ o. option_map_or (λ (f : K × V). (f.0, v) ∷ remove_entry (eq k) (entries_at es ps)) o ((k, v) ∷ entries_at es ps)) hit)

  -- a key that is not
  module _ (eq : K → K → Bool) (k : K) (none : Absent (eq k) es) where
    miss : lookup_entry (eq k) (entries_at es ps) ≡ None
    miss = absent_lookup (eq k) es ps none

    pub miss_value : lookup (eq k) (entries_at es ps) ≡ None
    miss_value = lookup_by_entry (eq k) (entries_at es ps) ∙ ap (option_map (λ (f : K × V). f.1)) miss

    pub miss_removed : entries_at es ps ≡ remove_entry (eq k) (entries_at es ps)
    miss_removed = sym (absent_remove (eq k) (entries_at es ps) miss)

    pub put_miss : (v : V) → entries_at (es ++ (k, v) ∷ []) (length ps ∷ ps) ≡ put_entries eq (entries_at es ps) k v
    put_miss v =
        ap (λ n. entries_at (es ++ (k, v) ∷ []) (n ∷ ps)) len
        ∙ entries-push es (k, v) ps inside
        ∙ sym (ap (λ o. option_map_or (λ (f : K × V). (f.0, v) ∷ remove_entry (eq k) (entries_at es ps)) o ((k, v) ∷ entries_at es ps)) miss)

  -- an entry that is taken out
  module _ (i : ℕ) (h : i < length es) where
    pub taken : (d : K × V) → entries_at (swap_remove es i d) (map (renamed (length ps - 1) i) (without i ps)) ≡ entries_at es (without i ps)
    taken d = ap (λ n. entries_at (swap_remove es i d) (map (renamed (n - 1) i) (without i ps))) len ∙ entries_removed es i d (without i ps) h (others_inside i h) (apart i h)

    pub taken_len : suc (length (map (renamed (length ps - 1) i) (without i ps))) ≡ length es
    taken_len =
        let t = there i h in
        let n = length-without i ps (omega (arith, t)) in
        let m = length-map (without i ps) (renamed (length ps - 1) i) in
        omega (arith, n, m, len)

    pub kept_len : length (i ∷ without i ps) ≡ length es
    kept_len = let t = there i h in let n = length-without i ps (omega (arith, t)) in n ∙ len

  -- the oldest one
  module _ (p : ℕ) (last : Some p ≡ slice_get ps (length ps - 1)) where
    pub last_inside : p < length es
    last_inside = let a = slice_get_within ps (length ps - 1) p (sym last) in
        let n = seen in
        let o : slice_get es p ≡ slice_get (entries_at es ps) (length ps - 1) = sym (entry_of_place es ps (length ps - 1) p inside (sym last)) in
        by (slice_get (entries_at es ps) (length ps - 1)) refl (omega (arith, a, n)) o
      where
        by : (r : Option (K × V)) → slice_get (entries_at es ps) (length ps - 1) ≡ r → length ps - 1 < length (entries_at es ps) → slice_get es p ≡ slice_get (entries_at es ps) (length ps - 1) → p < length es
        by (Some x) g n o = slice_get_within es p x (o ∙ g)
        by None g n o = absurd (some_not_none (entries_at es ps) (length ps - 1) n g)
          where
            some_not_none : (xs : List (K × V)) (k : ℕ) → k < length xs → slice_get xs k ≡ None → ⊥
            some_not_none [] k n g = omega (arith, n)
            some_not_none (y ∷ xs) zero n g = cc
            some_not_none (y ∷ xs) (suc k) n g = some_not_none xs k (omega (arith, n)) g

    pub last_is : slice_get es p ≡ last_entry (entries_at es ps)
    last_is = sym (entry_of_place es ps (length ps - 1) p inside (sym last)) ∙ ap (λ n. slice_get (entries_at es ps) (n - 1)) (sym seen)

    pub last_removed : entries_at es (without p ps) ≡ take (length (entries_at es ps) - 1) (entries_at es ps)
    last_removed =
        ap (entries_at es) (without_last ps p (sym last) (at_most_once ps order p))
        ∙ entries-take es ps (length ps - 1) inside
        ∙ ap (λ n. take (n - 1) (entries_at es ps)) (sym seen)
