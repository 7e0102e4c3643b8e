-- Entries and keys the other way round: what stands first, what a look-up finds, what a removal leaves.
use Rattle.std.proofs.Common.{◌≡◌, ◌-◌, Bool, true, false, cond, List, [], ◌∷◌, ◌++◌, Option, Some, None, Result, Ok, Err, refl, ap, sym, ◌∙◌, length, reverse, slice_get, take, drop, subst, arith}
use Rattle.std.proofs.lemmas.List.{reverse-append}
use Rattle.std.proofs.lemmas.Map.{lookup-remove_entry, lookup-set_value, keys-set_value}
use Rattle.std.proofs.lemmas.Map.Keys.{IsDistinct-head, IsDistinct-tail, IsDistinct-cons, IsDistinct-IsPermutation}
use Rattle.std.proofs.lemmas.List.Sorted.{IsPermutation-reverse}
use Rattle.std.specs.Option.{option_map, option_map_or, IsSome}
use Rattle.linked_map.specs.LinkedMap.{put_entries}
use Rattle.std.specs.Cmp.{IsEquivalence}
use Rattle.std.specs.List.{IsDistinct, AllByRecursion}
use Rattle.std.specs.Map.{lookup, lookup_entry, keys_of, remove_entry, set_value}
use Rattle.std.specs.Set.{remove_key}
use Rattle.std.specs.Result.{OnOk}
use Rattle.partial.specs.States.{changed_at}

pub reverse-cons : {X : Type 0} (x : X) (xs : List X) → reverse (x ∷ xs) ≡ reverse xs ++ x ∷ []
reverse-cons x xs = reverse-append (x ∷ []) xs

first_pushed : {X : Type 0} (xs : List X) (y x : X) → slice_get ((xs ++ y ∷ []) ++ x ∷ []) 0 ≡ slice_get (xs ++ y ∷ []) 0
first_pushed [] y x = refl
first_pushed (z ∷ xs) y x = refl

first_from : {X : Type 0} (x : X) (xs : List X) → slice_get (reverse (x ∷ xs)) 0 ≡ slice_get (x ∷ xs) (length xs)
first_from x [] = refl
first_from x (y ∷ xs) =
    ap (λ l. slice_get l 0) (reverse-cons x (y ∷ xs) ∙ ap (λ l. l ++ x ∷ []) (reverse-cons y xs))
    ∙ first_pushed (reverse xs) y x
    ∙ ap (λ l. slice_get l 0) (sym (reverse-cons y xs))
    ∙ first_from y xs

-- the first, the other way round, is the last
pub first_reversed : {X : Type 0} (xs : List X) → slice_get (reverse xs) 0 ≡ slice_get xs (length xs - 1)
first_reversed [] = refl
first_reversed (x ∷ xs) = let e : length xs ≡ length (x ∷ xs) - 1 = omega arith in first_from x xs ∙ ap (λ n. slice_get (x ∷ xs) n) e

rest_pushed : {X : Type 0} (xs : List X) (y x : X) → drop 1 ((xs ++ y ∷ []) ++ x ∷ []) ≡ drop 1 (xs ++ y ∷ []) ++ x ∷ []
rest_pushed [] y x = refl
rest_pushed (z ∷ xs) y x = refl

rest_from : {X : Type 0} (x : X) (xs : List X) → reverse (take (length xs) (x ∷ xs)) ≡ drop 1 (reverse (x ∷ xs))
rest_from x [] = refl
rest_from x (y ∷ xs) =
    reverse-cons x (take (length xs) (y ∷ xs))
    ∙ ap (λ l. l ++ x ∷ []) (rest_from y xs ∙ ap (drop 1) (reverse-cons y xs))
    ∙ sym (rest_pushed (reverse xs) y x)
    ∙ ap (drop 1) (ap (λ l. l ++ x ∷ []) (sym (reverse-cons y xs)) ∙ sym (reverse-cons x (y ∷ xs)))

-- all but the last, the other way round, is all but the first
pub rest_reversed : {X : Type 0} (xs : List X) → reverse (take (length xs - 1) xs) ≡ drop 1 (reverse xs)
rest_reversed [] = refl
rest_reversed (x ∷ xs) = let e : length (x ∷ xs) - 1 ≡ length xs = omega arith in ap (λ n. reverse (take n (x ∷ xs))) e ∙ rest_from x xs

pub keys-push : {K X : Type 0} (es : List (K × X)) (e : K × X) → keys_of (es ++ e ∷ []) ≡ keys_of es ++ e.0 ∷ []
keys-push [] e = refl
keys-push (y ∷ es) e = ap (λ l. y.0 ∷ l) (keys-push es e)

pub keys-reverse : {K X : Type 0} (es : List (K × X)) → keys_of (reverse es) ≡ reverse (keys_of es)
keys-reverse [] = refl
keys-reverse (e ∷ es) = ap keys_of (reverse-cons e es) ∙ keys-push (reverse es) e ∙ ap (λ l. l ++ e.0 ∷ []) (keys-reverse es) ∙ sym (reverse-cons e.0 (keys_of es))

first_key : {K X : Type 0} (es : List (K × X)) → slice_get (keys_of es) 0 ≡ option_map (λ p. p.0) (slice_get es 0)
first_key [] = refl
first_key (e ∷ es) = refl

-- the first key, the other way round, is that of the last entry
pub oldest_is : {K X : Type 0} (es : List (K × X)) (o : Option (K × X)) → o ≡ slice_get es (length es - 1) → option_map (λ p. p.0) o ≡ slice_get (keys_of (reverse es)) 0
oldest_is es o h = ap (option_map (λ p. p.0)) (h ∙ sym (first_reversed es)) ∙ sym (first_key (reverse es))

-- ---- look-ups
pub lookup-push_passing : {K X : Type 0} (test : K → Bool) (es : List (K × X)) (e : K × X) → lookup test es ≡ None → test e.0 ≡ true → lookup test (es ++ e ∷ []) ≡ Some e.1
lookup-push_passing test [] e h t = rw t refl
lookup-push_passing {K} {X} test (y ∷ es) e h t = step (test y.0) h (lookup-push_passing test es e)
  where
    step : (b : Bool) → cond b (Some y.1) (lookup test es) ≡ None → (lookup test es ≡ None → test e.0 ≡ true → lookup test (es ++ e ∷ []) ≡ Some e.1) → cond b (Some y.1) (lookup test (es ++ e ∷ [])) ≡ Some e.1
    step true h rest = cc
    step false h rest = rest h t

pub lookup-push_failing : {K X : Type 0} (test : K → Bool) (es : List (K × X)) (e : K × X) → test e.0 ≡ false → lookup test (es ++ e ∷ []) ≡ lookup test es
lookup-push_failing test [] e t = rw t refl
lookup-push_failing {K} {X} test (y ∷ es) e t = ap (λ o. cond (test y.0) (Some y.1) o) (lookup-push_failing test es e t)

-- the keys after one that passes do not pass
others_fail : {K X : Type 0} {eq : K → K → Bool} → IsEquivalence eq → (k : K) (e : K × X) (es : List (K × X)) → IsDistinct eq (keys_of (e ∷ es)) → eq k e.0 ≡ true → lookup (eq k) es ≡ None
others_fail {K} {X} {eq} laws k e es d t = by es (IsDistinct-head eq e.0 (keys_of es) d)
  where
    by : (es : List (K × X)) → AllByRecursion (λ y. eq e.0 y ≡ false) (keys_of es) → lookup (eq k) es ≡ None
    by [] a = refl
    by (y ∷ es) a = rw (laws.congr k e.0 y.0 t ∙ a.0) (by es a.1)

pub lookup-reverse : {K X : Type 0} {eq : K → K → Bool} → IsEquivalence eq → (k : K) (es : List (K × X)) → IsDistinct eq (keys_of es) → lookup (eq k) (reverse es) ≡ lookup (eq k) es
lookup-reverse laws k [] d = refl
lookup-reverse {K} {X} {eq} laws k (e ∷ es) d = ap (lookup (eq k)) (reverse-cons e es) ∙ step (eq k e.0) refl (lookup-reverse laws k es (IsDistinct-tail eq e.0 (keys_of es) d))
  where
    step : (b : Bool) → eq k e.0 ≡ b → lookup (eq k) (reverse es) ≡ lookup (eq k) es → lookup (eq k) (reverse es ++ e ∷ []) ≡ cond b (Some e.1) (lookup (eq k) es)
    step true t rest = lookup-push_passing (eq k) (reverse es) e (rest ∙ others_fail laws k e es d t) t
    step false t rest = lookup-push_failing (eq k) (reverse es) e t ∙ rest

-- ---- removals
remove_key-push_failing : {K : Type 0} (test : K → Bool) (ks : List K) (k : K) → test k ≡ false → remove_key test (ks ++ k ∷ []) ≡ remove_key test ks ++ k ∷ []
remove_key-push_failing test [] k t = rw t refl
remove_key-push_failing {K} test (y ∷ ks) k t = step (test y) (remove_key-push_failing test ks k t)
  where
    step : (b : Bool) → remove_key test (ks ++ k ∷ []) ≡ remove_key test ks ++ k ∷ [] → cond b (ks ++ k ∷ []) (y ∷ remove_key test (ks ++ k ∷ [])) ≡ cond b ks (y ∷ remove_key test ks) ++ k ∷ []
    step true rest = refl
    step false rest = ap (λ l. y ∷ l) rest

-- none of the keys passes
abbrev pub NoneIs : {K : Type 0} → (K → Bool) → List K → Type 0
NoneIs test [] = Unit {0}
NoneIs test (k ∷ ks) = (test k ≡ false) × NoneIs test ks

NoneIs-push : {K : Type 0} (test : K → Bool) (ks : List K) (k : K) → NoneIs test ks → test k ≡ false → NoneIs test (ks ++ k ∷ [])
NoneIs-push test [] k h t = (t, tt)
NoneIs-push test (y ∷ ks) k h t = (h.0, NoneIs-push test ks k h.1 t)

NoneIs-reverse : {K : Type 0} (test : K → Bool) (ks : List K) → NoneIs test ks → NoneIs test (reverse ks)
NoneIs-reverse test [] h = tt
NoneIs-reverse test (k ∷ ks) h = subst (NoneIs test) (sym (reverse-cons k ks)) (NoneIs-push test (reverse ks) k (NoneIs-reverse test ks h.1) h.0)

remove_key-push_passing : {K : Type 0} (test : K → Bool) (ks : List K) (k : K) → NoneIs test ks → test k ≡ true → remove_key test (ks ++ k ∷ []) ≡ ks
remove_key-push_passing test [] k h t = rw t refl
remove_key-push_passing test (y ∷ ks) k h t = rw h.0 (ap (λ l. y ∷ l) (remove_key-push_passing test ks k h.1 t))

NoneIs-distinct : {K : Type 0} {eq : K → K → Bool} → IsEquivalence eq → (k y : K) (ks : List K) → eq k y ≡ true → AllByRecursion (λ z. eq y z ≡ false) ks → NoneIs (eq k) ks
NoneIs-distinct laws k y [] t a = tt
NoneIs-distinct laws k y (z ∷ ks) t a = (laws.congr k y z t ∙ a.0, NoneIs-distinct laws k y ks t a.1)

pub remove_key-reverse : {K : Type 0} {eq : K → K → Bool} → IsEquivalence eq → (k : K) (ks : List K) → IsDistinct eq ks → reverse (remove_key (eq k) ks) ≡ remove_key (eq k) (reverse ks)
remove_key-reverse laws k [] d = refl
remove_key-reverse {K} {eq} laws k (y ∷ ks) d = step (eq k y) refl (remove_key-reverse laws k ks (IsDistinct-tail eq y ks d)) ∙ ap (remove_key (eq k)) (sym (reverse-cons y ks))
  where
    step : (b : Bool) → eq k y ≡ b → reverse (remove_key (eq k) ks) ≡ remove_key (eq k) (reverse ks) → reverse (cond b ks (y ∷ remove_key (eq k) ks)) ≡ remove_key (eq k) (reverse ks ++ y ∷ [])
    step true t rest = sym (remove_key-push_passing (eq k) (reverse ks) y (NoneIs-reverse (eq k) ks (NoneIs-distinct laws k y ks t (IsDistinct-head eq y ks d))) t)
    step false t rest =
        reverse-cons y (remove_key (eq k) ks) ∙ ap (λ l. l ++ y ∷ []) rest ∙ sym (remove_key-push_failing (eq k) (reverse ks) y t)

pub keys-remove_entry : {K X : Type 0} (test : K → Bool) (es : List (K × X)) → keys_of (remove_entry test es) ≡ remove_key test (keys_of es)
keys-remove_entry test [] = refl
keys-remove_entry {K} {X} test (e ∷ es) = step (test e.0) (keys-remove_entry test es)
  where
    step : (b : Bool) → keys_of (remove_entry test es) ≡ remove_key test (keys_of es) → keys_of (cond b es (e ∷ remove_entry test es)) ≡ cond b (keys_of es) (e.0 ∷ remove_key test (keys_of es))
    step true rest = refl
    step false rest = ap (λ l. e.0 ∷ l) rest

entry_none : {K X : Type 0} (test : K → Bool) (es : List (K × X)) → lookup test es ≡ None → lookup_entry test es ≡ None
entry_none test [] h = refl
entry_none {K} {X} test (e ∷ es) h = step (test e.0) h (entry_none test es)
  where
    step : (b : Bool) → cond b (Some e.1) (lookup test es) ≡ None → (lookup test es ≡ None → lookup_entry test es ≡ None) → cond b (Some e) (lookup_entry test es) ≡ None
    step true h rest = cc
    step false h rest = rest h

-- ---- what a map gives and leaves
-- the entries once a key that is not there was put in
pub put_is : {K X : Type 0} {eq : K → K → Bool} → IsEquivalence eq → (es : List (K × X)) (k : K) (v : X) → IsDistinct eq (keys_of es)
    → lookup (eq k) (reverse es) ≡ None → reverse (put_entries eq es k v) ≡ reverse es ++ (k, v) ∷ []
put_is {K} {X} {eq} laws es k v d none = ap reverse (step (lookup_entry (eq k) es) (entry_none (eq k) es (sym (lookup-reverse laws k es d) ∙ none))) ∙ reverse-cons (k, v) es
  where
    step : (o : Option (K × X)) → o ≡ None → option_map_or (λ e. (e.0, v) ∷ remove_entry (eq k) es) o ((k, v) ∷ es) ≡ (k, v) ∷ es
    step None e = refl
    step (Some p) e = cc

all_removed : {K X : Type 0} (P : K → Type 0) (test : K → Bool) (es : List (K × X)) → AllByRecursion P (keys_of es) → AllByRecursion P (keys_of (remove_entry test es))
all_removed P test [] a = a
all_removed {K} {X} P test (e ∷ es) a = step (test e.0) (all_removed P test es a.1)
  where
    step : (b : Bool) → AllByRecursion P (keys_of (remove_entry test es)) → AllByRecursion P (keys_of (cond b es (e ∷ remove_entry test es)))
    step true rest = a.1
    step false rest = (a.0, rest)

pub distinct_removed : {K X : Type 0} (eq : K → K → Bool) (test : K → Bool) (es : List (K × X)) → IsDistinct eq (keys_of es) → IsDistinct eq (keys_of (remove_entry test es))
distinct_removed eq test [] d = d
distinct_removed {K} {X} eq test (e ∷ es) d = step (test e.0) (distinct_removed eq test es (IsDistinct-tail eq e.0 (keys_of es) d))
  where
    step : (b : Bool) → IsDistinct eq (keys_of (remove_entry test es)) → IsDistinct eq (keys_of (cond b es (e ∷ remove_entry test es)))
    step true rest = IsDistinct-tail eq e.0 (keys_of es) d
    step false rest = IsDistinct-cons eq e.0 (keys_of (remove_entry test es)) (all_removed (λ y. eq e.0 y ≡ false) test es (IsDistinct-head eq e.0 (keys_of es) d)) rest

-- equal keys find the same
lookup_agrees : {K X : Type 0} {eq : K → K → Bool} → IsEquivalence eq → (key k : K) (ds : List (K × X)) → eq key k ≡ true → lookup (eq k) ds ≡ lookup (eq key) ds
lookup_agrees laws key k [] t = refl
lookup_agrees {K} {X} {eq} laws key k (d ∷ ds) t = ap (λ b. cond b (Some d.1) (lookup (eq k) ds)) (sym (laws.congr key k d.0 t)) ∙ ap (cond (eq key d.0) (Some d.1)) (lookup_agrees laws key k ds t)

-- what a look-up then finds
pub pushed_lookup : {K X : Type 0} {eq : K → K → Bool} → IsEquivalence eq → (key k : K) (v : X) (es : List (K × X)) → lookup (eq key) es ≡ None
    → lookup (eq k) (es ++ (key, v) ∷ []) ≡ cond (eq key k) (Some v) (lookup (eq k) es)
pushed_lookup {K} {X} {eq} laws key k v es none = step (eq key k) refl
  where
    step : (b : Bool) → eq key k ≡ b → lookup (eq k) (es ++ (key, v) ∷ []) ≡ cond b (Some v) (lookup (eq k) es)
    step true t = lookup-push_passing (eq k) es (key, v) (lookup_agrees laws key k es t ∙ none) (laws.symm k key ∙ t)
    step false t = lookup-push_failing (eq k) es (key, v) (laws.symm k key ∙ t)

-- what a removal leaves
pub removed_lookup : {K X : Type 0} {eq : K → K → Bool} → IsEquivalence eq → (key k : K) (es : List (K × X)) → IsDistinct eq (keys_of es)
    → lookup (eq k) (reverse (remove_entry (eq key) es)) ≡ cond (eq key k) None (lookup (eq k) (reverse es))
removed_lookup {K} {X} {eq} laws key k es d =
    lookup-reverse laws k (remove_entry (eq key) es) (distinct_removed eq (eq key) es d)
    ∙ lookup-remove_entry laws (eq key) (λ x y h. laws.congr key x y h) k es d
    ∙ ap (λ o. cond (eq key k) None o) (sym (lookup-reverse laws k es d))

pub removed_order : {K X : Type 0} {eq : K → K → Bool} → IsEquivalence eq → (key : K) (es : List (K × X)) → IsDistinct eq (keys_of es)
    → keys_of (reverse (remove_entry (eq key) es)) ≡ remove_key (eq key) (keys_of (reverse es))
removed_order {K} {X} {eq} laws key es d =
    keys-reverse (remove_entry (eq key) es) ∙ ap reverse (keys-remove_entry (eq key) es) ∙ remove_key-reverse laws key (keys_of es) d ∙ ap (remove_key (eq key)) (sym (keys-reverse es))

-- what a new value at a key that is there leaves
pub changed_lookup : {K X : Type 0} {eq : K → K → Bool} → IsEquivalence eq → (key k : K) (es : List (K × X)) (w : X) → IsDistinct eq (keys_of es) → IsSome (lookup (eq key) es)
    → lookup (eq k) (reverse (set_value (eq key) es w)) ≡ cond (eq key k) (Some w) (lookup (eq k) (reverse es))
changed_lookup {K} {X} {eq} laws key k es w d there =
    lookup-reverse laws k (set_value (eq key) es w) (subst (IsDistinct eq) (sym (keys-set_value (eq key) es w)) d)
    ∙ lookup-set_value laws (eq key) (λ x y h. laws.congr key x y h) k w es there
    ∙ ap (λ o. cond (eq key k) (Some w) o) (sym (lookup-reverse laws k es d))

pub changed_order : {K X : Type 0} (test : K → Bool) (es : List (K × X)) (w : X) → keys_of (reverse (set_value test es w)) ≡ keys_of (reverse es)
changed_order test es w = keys-reverse (set_value test es w) ∙ ap reverse (keys-set_value test es w) ∙ sym (keys-reverse es)

-- what a change of the value at a key leaves, and what there is where the key is not there
module _ {K X : Type 0} {eq : K → K → Bool} (laws : IsEquivalence eq) (key : K) (es : List (K × X)) (d : IsDistinct eq (keys_of es)) (f : X → X) where
  found_as : (k : K) → eq key k ≡ true → lookup (eq k) (reverse es) ≡ lookup (eq key) es
  found_as k t = lookup-reverse laws k es d ∙ lookup_agrees laws key k es t

  pub changed_all : (v w : X) → Some v ≡ lookup (eq key) es → w ≡ f v → (k : K) → lookup (eq k) (reverse (set_value (eq key) es w)) ≡ changed_at f (eq key k) (lookup (eq k) (reverse es))
  changed_all v w there is k = changed_lookup laws key k es w d (subst IsSome there refl) ∙ step (eq key k) refl
    where
      step : (b : Bool) → eq key k ≡ b → cond b (Some w) (lookup (eq k) (reverse es)) ≡ changed_at f b (lookup (eq k) (reverse es))
      step true t = ap Some is ∙ ap (option_map f) (there ∙ sym (found_as k t))
      step false t = refl

  pub absent_all : None ≡ lookup (eq key) es → (k : K) → lookup (eq k) (reverse es) ≡ changed_at f (eq key k) (lookup (eq k) (reverse es))
  absent_all gone k = step (eq key k) refl
    where
      step : (b : Bool) → eq key k ≡ b → lookup (eq k) (reverse es) ≡ changed_at f b (lookup (eq k) (reverse es))
      step true t = let none : lookup (eq k) (reverse es) ≡ None = found_as k t ∙ sym gone in rw none refl
      step false t = refl

-- the entries behind the first have no key that is the first's
first_gone : {K X : Type 0} {eq : K → K → Bool} → IsEquivalence eq → (key k : K) (v : X) (es : List (K × X)) → IsDistinct eq (keys_of es) → slice_get es 0 ≡ Some (key, v)
    → lookup (eq k) (drop 1 es) ≡ cond (eq key k) None (lookup (eq k) es)
first_gone laws key k v [] d h = cc
first_gone {K} {X} {eq} laws key k v (e ∷ es) d h = step (eq k e.0) refl
  where
    same : eq key k ≡ eq k e.0
    same = let at : e ≡ (key, v) = cc in laws.symm key k ∙ ap (λ p. eq k p.0) (sym at)

    step : (b : Bool) → eq k e.0 ≡ b → lookup (eq k) es ≡ cond (eq key k) None (cond (eq k e.0) (Some e.1) (lookup (eq k) es))
    step true t = rw (same, t) (others_fail laws k e es d t)
    step false t = rw (same, t) refl

-- what the removal of the oldest leaves
pub oldest_gone : {K X : Type 0} {eq : K → K → Bool} → IsEquivalence eq → (key k : K) (v : X) (es : List (K × X)) → IsDistinct eq (keys_of es) → Some (key, v) ≡ slice_get es (length es - 1)
    → lookup (eq k) (reverse (take (length es - 1) es)) ≡ cond (eq key k) None (lookup (eq k) (reverse es))
oldest_gone {K} {X} {eq} laws key k v es d h =
    ap (lookup (eq k)) (rest_reversed es)
    ∙ first_gone laws key k v (reverse es) (subst (IsDistinct eq) (sym (keys-reverse es)) (IsDistinct-IsPermutation eq laws.symm (keys_of es) (reverse (keys_of es)) (IsPermutation-reverse (keys_of es)) d)) (first_reversed es ∙ sym h)

-- ---- outcomes
pub on_ok_from : {X E : Type 0} (r s : Result X E) {P Q : Type 0} → s ≡ r → (P → Q) → OnOk r P → OnOk s Q
on_ok_from {X} {E} r s {P} {Q} e f h = subst (λ t. OnOk t Q) (sym e) (by r h)
  where
    by : (r : Result X E) → OnOk r P → OnOk r Q
    by (Ok x) h = f h
    by (Err y) h = tt

pub on_ok_always : {X E : Type 0} (r : Result X E) {Q : Type 0} → Q → OnOk r Q
on_ok_always (Ok x) q = q
on_ok_always (Err y) q = tt
