-- A map from values, of which whole numbers below 2^32 stand apart: what a look-up finds, and what a step leaves.
use Rattle.std.proofs.Common.{◌≡◌, ℕ, ◌^◌, pos, negsuc, Bool, true, false, cond, nat_eq, nat_lt, List, [], ◌∷◌, ◌++◌, map, min, All, Option, Some, None, IsSome, IsPermutation, MatchOption, HashMap, refl, ap, sym, subst, ◌∙◌}
use Rattle.std.specs.List.{AllByRecursion, IsDistinct}
use Rattle.std.specs.Map.{keys_of, values_of, lookup, remove_entry, set_value}
use Rattle.std.specs.Ordering.{is_eq}
use Rattle.std.specs.HashMap.{IsReordered, IsUnique, PutsEntry, WritesThrough, get, keys, spare}
use Rattle.std.specs.Cmp.{unsigned_tied}
use Rattle.std.proofs.lemmas.List.Elements.{All-head, All-tail, All-cons, All-same}
use Rattle.std.proofs.lemmas.List.Sorted.{All-permutation, length_permutation, IsPermutation-append, IsPermutation-append_right, IsPermutation-map, IsPermutation-middle, IsPermutation-refl, IsPermutation-sym, IsPermutation-trans}
use Rattle.std.proofs.lemmas.Map.{NonePasses, lookup-none}
use Rattle.std.proofs.lemmas.Map.Keys.{IsDistinct-head, IsDistinct-tail, IsDistinct-cons}
use Rattle.row.specs.Cells.{Datum, int, text, datum_of, same}
use Rattle.row.specs.Groups.{equal}
use Rattle.row.specs.ValueMaps.{small_in, key_or, kept_key, both, whole, IsParted, Writes}
use Rattle.row.specs.declared.value.Value.{Value}
use Rattle.row.specs.declared.value.Value.TheVariants.{Int}
use Rattle.row.proofs.Cellwise.{eq-value_is}
use Rattle.row.proofs.Keys.{equal_is}
use Rattle.row.proofs.NumberOrder.{whole_cmp}

abbrev IsSmall : ℕ → Type 0
IsSmall n = nat_lt n (2 ^ 32) ≡ true

abbrev IsOther : Value → Type 0
IsOther v = small_in (datum_of v) ≡ None

-- ---- keys
-- a whole number below 2^32
record IsNumber (d : Datum) (n : ℕ) : Type 0 where
  is : d ≡ int (pos n)
  small : IsSmall n

number_is : (d : Datum) (n : ℕ) → small_in d ≡ Some n → IsNumber d n
number_is (text t) n h = absurd cc
number_is (int (negsuc m)) n h = absurd cc
number_is (int (pos m)) n h = step (nat_lt m (2 ^ 32)) refl h
  where
    step : (b : Bool) → nat_lt m (2 ^ 32) ≡ b → cond b (Some m) None ≡ Some n → IsNumber (int (pos m)) n
    step true e q = let own : m ≡ n = cc in record { is = ap (λ a. int (pos a)) own; small = subst IsSmall own e }
    step false e q = absurd cc

number_small : (n : ℕ) → IsSmall n → small_in (int (pos n)) ≡ Some n
number_small n h = ap (λ b. cond b (Some n) None) h

-- the key that is kept is the same value
pub kept_is : (key : Value) → datum_of (kept_key key) ≡ datum_of key
kept_is key = step (small_in (datum_of key)) refl
  where
    step : (o : Option ℕ) → small_in (datum_of key) ≡ o → datum_of (key_or o key) ≡ datum_of key
    step None e = refl
    step (Some n) e = let own = number_is (datum_of key) n e in sym own.is

-- a whole number below 2^32, and what is none
apart : (k j : Value) (n : ℕ) → small_in (datum_of k) ≡ Some n → IsOther j → equal k j ≡ false
apart k j n is other = step (equal k j) refl
  where
    step : (b : Bool) → equal k j ≡ b → b ≡ false
    step false e = refl
    step true e = let both_are : Some n ≡ None = sym is ∙ (ap small_in (equal_is k j e) ∙ other) in absurd cc

apart_back : (k j : Value) (n : ℕ) → small_in (datum_of k) ≡ Some n → IsOther j → equal j k ≡ false
apart_back k j n is other = step (equal j k) refl
  where
    step : (b : Bool) → equal j k ≡ b → b ≡ false
    step false e = refl
    step true e = let both_are : Some n ≡ None = sym is ∙ (sym (ap small_in (equal_is j k e)) ∙ other) in absurd cc

-- two whole numbers below 2^32
same_number : (n m : ℕ) → same (int (pos n)) (int (pos m)) ≡ nat_eq n m
same_number n m = ap is_eq (whole_cmp n m) ∙ unsigned_tied n m

numbers_equal : (k j : Value) (n m : ℕ) → small_in (datum_of k) ≡ Some n → small_in (datum_of j) ≡ Some m → equal k j ≡ nat_eq n m
numbers_equal k j n m is is' =
    let own = number_is (datum_of k) n is in
    let its = number_is (datum_of j) m is' in
    eq-value_is k j ∙ (ap (λ d. same d (datum_of j)) own.is ∙ (ap (same (int (pos n))) its.is ∙ same_number n m))

number_equal : (k : Value) (n m : ℕ) → small_in (datum_of k) ≡ Some n → equal k (Int (pos m)) ≡ nat_eq n m
number_equal k n m is =
    let own = number_is (datum_of k) n is in
    eq-value_is k (Int (pos m)) ∙ (ap (λ d. same d (int (pos m))) own.is ∙ same_number n m)

module _ {X : Type 0} where
  none_among : (k : Value) (n : ℕ) → small_in (datum_of k) ≡ Some n → (os : List (Value × X)) → All IsOther (keys_of os) → NonePasses (equal k) os
  none_among k n is [] h = tt
  none_among k n is (e ∷ os) h = (apart k e.0 n is (All-head IsOther e.0 (keys_of os) h), none_among k n is os (All-tail IsOther e.0 (keys_of os) h))

  unchanged : (test : Value → Bool) (os : List (Value × X)) (w : X) → NonePasses test os → set_value test os w ≡ os
  unchanged test [] w h = refl
  unchanged test (e ∷ os) w h = ap (λ b. cond b ((e.0, w) ∷ os) (e ∷ set_value test os w)) h.0 ∙ ap (λ t. e ∷ t) (unchanged test os w h.1)

  unremoved : (test : Value → Bool) (os : List (Value × X)) → NonePasses test os → remove_entry test os ≡ os
  unremoved test [] h = refl
  unremoved test (e ∷ os) h = ap (λ b. cond b os (e ∷ remove_entry test os)) h.0 ∙ ap (λ t. e ∷ t) (unremoved test os h.1)

  -- ---- a whole number below 2^32 is among the numbers alone
  module _ (k : Value) (n : ℕ) (is : small_in (datum_of k) ≡ Some n) (os : List (Value × X)) (others : All IsOther (keys_of os)) where
    lookup_number : (ns : List (ℕ × X)) → lookup (equal k) (both ns os) ≡ lookup (nat_eq n) ns
    lookup_number [] = lookup-none (equal k) os (none_among k n is os others)
    lookup_number (e ∷ ns) = ap (λ b. cond b (Some e.1) (lookup (equal k) (both ns os))) (number_equal k n e.0 is) ∙ ap (cond (nat_eq n e.0) (Some e.1)) (lookup_number ns)

    set_number : (ns : List (ℕ × X)) (w : X) → set_value (equal k) (both ns os) w ≡ both (set_value (nat_eq n) ns w) os
    set_number [] w = unchanged (equal k) os w (none_among k n is os others)
    set_number (e ∷ ns) w = ap (λ b. cond b ((Int (pos e.0), w) ∷ both ns os) ((Int (pos e.0), e.1) ∷ set_value (equal k) (both ns os) w)) (number_equal k n e.0 is) ∙ step (nat_eq n e.0) (set_number ns w)
      where
        step : (b : Bool) → set_value (equal k) (both ns os) w ≡ both (set_value (nat_eq n) ns w) os
            → cond b ((Int (pos e.0), w) ∷ both ns os) ((Int (pos e.0), e.1) ∷ set_value (equal k) (both ns os) w) ≡ both (cond b ((e.0, w) ∷ ns) (e ∷ set_value (nat_eq n) ns w)) os
        step true h = refl
        step false h = ap (λ t. (Int (pos e.0), e.1) ∷ t) h

    remove_number : (ns : List (ℕ × X)) → remove_entry (equal k) (both ns os) ≡ both (remove_entry (nat_eq n) ns) os
    remove_number [] = unremoved (equal k) os (none_among k n is os others)
    remove_number (e ∷ ns) = ap (λ b. cond b (both ns os) ((Int (pos e.0), e.1) ∷ remove_entry (equal k) (both ns os))) (number_equal k n e.0 is) ∙ step (nat_eq n e.0) (remove_number ns)
      where
        step : (b : Bool) → remove_entry (equal k) (both ns os) ≡ both (remove_entry (nat_eq n) ns) os
            → cond b (both ns os) ((Int (pos e.0), e.1) ∷ remove_entry (equal k) (both ns os)) ≡ both (cond b ns (e ∷ remove_entry (nat_eq n) ns)) os
        step true h = refl
        step false h = ap (λ t. (Int (pos e.0), e.1) ∷ t) h

  -- ---- any other key is among the others alone
  module _ (k : Value) (is : IsOther k) (os : List (Value × X)) where
    past : (m : ℕ) → IsSmall m → equal k (Int (pos m)) ≡ false
    past m small = apart_back (Int (pos m)) k m (number_small m small) is

    lookup_other : (ns : List (ℕ × X)) → All IsSmall (keys_of ns) → lookup (equal k) (both ns os) ≡ lookup (equal k) os
    lookup_other [] h = refl
    lookup_other (e ∷ ns) h = ap (λ b. cond b (Some e.1) (lookup (equal k) (both ns os))) (past e.0 (All-head IsSmall e.0 (keys_of ns) h)) ∙ lookup_other ns (All-tail IsSmall e.0 (keys_of ns) h)

    set_other : (ns : List (ℕ × X)) (w : X) → All IsSmall (keys_of ns) → set_value (equal k) (both ns os) w ≡ both ns (set_value (equal k) os w)
    set_other [] w h = refl
    set_other (e ∷ ns) w h =
        ap (λ b. cond b ((Int (pos e.0), w) ∷ both ns os) ((Int (pos e.0), e.1) ∷ set_value (equal k) (both ns os) w)) (past e.0 (All-head IsSmall e.0 (keys_of ns) h))
        ∙ ap (λ t. (Int (pos e.0), e.1) ∷ t) (set_other ns w (All-tail IsSmall e.0 (keys_of ns) h))

    remove_other : (ns : List (ℕ × X)) → All IsSmall (keys_of ns) → remove_entry (equal k) (both ns os) ≡ both ns (remove_entry (equal k) os)
    remove_other [] h = refl
    remove_other (e ∷ ns) h =
        ap (λ b. cond b (both ns os) ((Int (pos e.0), e.1) ∷ remove_entry (equal k) (both ns os))) (past e.0 (All-head IsSmall e.0 (keys_of ns) h))
        ∙ ap (λ t. (Int (pos e.0), e.1) ∷ t) (remove_other ns (All-tail IsSmall e.0 (keys_of ns) h))

  -- ---- no two keys are equal
  number_apart : (n : ℕ) → IsSmall n → (ns : List (ℕ × X)) (os : List (Value × X)) → All IsOther (keys_of os) → AllByRecursion (λ m. nat_eq n m ≡ false) (keys_of ns)
      → AllByRecursion (λ k. equal (Int (pos n)) k ≡ false) (keys_of (both ns os))
  number_apart n small [] [] others h = tt
  number_apart n small [] (e ∷ os) others h = (apart (Int (pos n)) e.0 n (number_small n small) (All-head IsOther e.0 (keys_of os) others), number_apart n small [] os (All-tail IsOther e.0 (keys_of os) others) h)
  number_apart n small (e ∷ ns) os others h = (number_equal (Int (pos n)) n e.0 (number_small n small) ∙ h.0, number_apart n small ns os others h.1)

  both_distinct : (ns : List (ℕ × X)) (os : List (Value × X)) → All IsSmall (keys_of ns) → All IsOther (keys_of os) → IsDistinct nat_eq (keys_of ns) → IsDistinct equal (keys_of os) → IsDistinct equal (keys_of (both ns os))
  both_distinct [] os small others d e = e
  both_distinct (x ∷ ns) os small others d e =
      IsDistinct-cons equal (Int (pos x.0)) (keys_of (both ns os)) (number_apart x.0 (All-head IsSmall x.0 (keys_of ns) small) ns os others (IsDistinct-head nat_eq x.0 (keys_of ns) d))
      (both_distinct ns os (All-tail IsSmall x.0 (keys_of ns) small) others (IsDistinct-tail nat_eq x.0 (keys_of ns) d) e)

  -- ---- in another order
  both_permuted : (ns ms : List (ℕ × X)) (os ps : List (Value × X)) → IsPermutation ns ms → IsPermutation os ps → IsPermutation (both ns os) (both ms ps)
  both_permuted ns ms os ps h k = IsPermutation-append (map (λ e. (Int (pos e.0), e.1)) ns) (map (λ e. (Int (pos e.0), e.1)) ms) os ps (IsPermutation-map (λ e. (Int (pos e.0), e.1)) ns ms h) k

  both_more : (ns : List (ℕ × X)) (os ps : List (Value × X)) (x : Value × X) → IsPermutation (x ∷ os) ps → IsPermutation (x ∷ both ns os) (both ns ps)
  both_more ns os ps x h =
      let ms = map (λ (e : ℕ × X). (Int (pos e.0), e.1)) ns in
      IsPermutation-trans (x ∷ (ms ++ os)) (ms ++ x ∷ os) (ms ++ ps) (IsPermutation-sym (ms ++ x ∷ os) (x ∷ (ms ++ os)) (IsPermutation-middle ms x os)) (IsPermutation-append_right ms (x ∷ os) ps h)

module _ {K X : Type 0} (P : K → Type 0) where
  -- what holds of each key holds of those that are left, and of one more
  All-removed : (test : K → Bool) (es : List (K × X)) → All P (keys_of es) → All P (keys_of (remove_entry test es))
  All-removed test [] h = h
  All-removed test (e ∷ es) h = let rest = All-tail P e.0 (keys_of es) h in step (test e.0) rest (All-removed test es rest)
    where
      step : (b : Bool) → All P (keys_of es) → All P (keys_of (remove_entry test es)) → All P (keys_of (cond b es (e ∷ remove_entry test es)))
      step true t less = t
      step false t less = All-cons P e.0 (keys_of (remove_entry test es)) (All-head P e.0 (keys_of es) h) less

  All-moved : (es fs : List (K × X)) → IsPermutation es fs → All P (keys_of es) → All P (keys_of fs)
  All-moved es fs h all = All-permutation P (keys_of es) (keys_of fs) (IsPermutation-map (λ e. e.0) es fs h) all

  All-put : (eq : K → K → Bool) (es fs : List (K × X)) (k : K) (w : X) (old : Option X) → P k → All P (keys_of es) → (IsSome old → keys_of fs ≡ keys_of es) → MatchOption old (IsPermutation ((k, w) ∷ es) fs) (λ _. fs ≡ set_value (eq k) es w) → All P (keys_of fs)
  All-put eq es fs k w None own all stay h = All-moved ((k, w) ∷ es) fs h (All-cons P k (keys_of es) own all)
  All-put eq es fs k w (Some x) own all stay h = All-same P (keys_of fs) (keys_of es) (stay refl) all

module _ {X S T : Type 0} where
  -- ---- the two maps as one
  pub whole_unique : (m : HashMap ℕ X S) (o : HashMap Value X T) → IsParted m o → IsUnique equal (whole m o)
  whole_unique m o p = both_distinct m.entries o.entries p.small p.apart p.numbers_unique p.others_unique

  pub finds_number : (m : HashMap ℕ X S) (o : HashMap Value X T) → IsParted m o → (k : Value) (n : ℕ) → small_in (datum_of k) ≡ Some n → get equal (whole m o) k ≡ get nat_eq m n
  finds_number m o p k n is = lookup_number k n is o.entries p.apart m.entries

  pub finds_other : (m : HashMap ℕ X S) (o : HashMap Value X T) → IsParted m o → (k : Value) → small_in (datum_of k) ≡ None → get equal (whole m o) k ≡ get equal o k
  finds_other m o p k is = lookup_other k is o.entries m.entries p.small

  -- ---- what a step on one of them leaves
  module _ (m n : HashMap ℕ X S) (o : HashMap Value X T) (old : IsParted m o) (unique : IsUnique nat_eq n) where
    parted_numbers : All IsSmall (keys n) → IsParted n o
    parted_numbers h = record { small = h; apart = old.apart; numbers_unique = unique; others_unique = old.others_unique }

    pub parted_same : n.entries ≡ m.entries → IsParted n o
    parted_same h = parted_numbers (All-same IsSmall (keys n) (keys m) (ap keys_of h) old.small)

    module _ (key : Value) (x : ℕ) (is : small_in (datum_of key) ≡ Some x) where
      own_small : IsSmall x
      own_small = let own = number_is (datum_of key) x is in own.small

      pub parted_put : (v : X) (was : Option X) → (IsSome was → keys n ≡ keys m) → PutsEntry nat_eq m n x v was → IsParted n o
      parted_put v was stay h = parted_numbers (All-put IsSmall nat_eq m.entries n.entries x v was own_small old.small stay h)

      pub parted_removed : IsPermutation (remove_entry (nat_eq x) m.entries) n.entries → IsParted n o
      parted_removed h = parted_numbers (All-moved IsSmall (remove_entry (nat_eq x) m.entries) n.entries h (All-removed IsSmall (nat_eq x) m.entries old.small))

      pub updated : IsParted n o → (w : Option X) → ((q : ℕ) → get nat_eq n q ≡ cond (nat_eq x q) w (get nat_eq m q)) → (k : Value) → get equal (whole n o) k ≡ cond (equal key k) w (get equal (whole m o) k)
      updated new w h k = step (small_in (datum_of k)) refl
        where
          step : (a : Option ℕ) → small_in (datum_of k) ≡ a → get equal (whole n o) k ≡ cond (equal key k) w (get equal (whole m o) k)
          step (Some q) e = rw (finds_number n o new k q e, finds_number m o old k q e, numbers_equal key k x q is e) (h q)
          step None e = rw (finds_other n o new k e, finds_other m o old k e, apart key k x is e) refl

      pub puts : (v : X) (was : Option X) → PutsEntry nat_eq m n x v was → PutsEntry equal (whole m o) (whole n o) (kept_key key) v was
      puts v was h = subst (λ k. PutsEntry equal (whole m o) (whole n o) k v was) (sym (ap (λ a. key_or a key) is)) (step was h)
        where
          step : (was : Option X) → PutsEntry nat_eq m n x v was → PutsEntry equal (whole m o) (whole n o) (Int (pos x)) v was
          step None h = both_permuted ((x, v) ∷ m.entries) n.entries o.entries o.entries h (IsPermutation-refl o.entries)
          step (Some w) h = ap (λ t. both t o.entries) h ∙ sym (set_number (Int (pos x)) x (number_small x own_small) o.entries old.apart m.entries v)

      pub removes : IsPermutation (remove_entry (nat_eq x) m.entries) n.entries → IsPermutation (remove_entry (equal key) (both m.entries o.entries)) (both n.entries o.entries)
      removes h = rw (remove_number key x is o.entries old.apart m.entries) (both_permuted (remove_entry (nat_eq x) m.entries) n.entries o.entries o.entries h (IsPermutation-refl o.entries))

  pub writes_number : (m n : HashMap ℕ X S) (o : HashMap Value X T) → IsParted m o → (key : Value) (x : ℕ) → small_in (datum_of key) ≡ Some x → (w : X) → WritesThrough nat_eq (nat_eq x) m w n
      → Writes (whole m o) key w (whole n o)
  writes_number m n o old key x is w h = record {
    entries = ap (λ t. both t o.entries) h.0 ∙ sym (set_number key x is o.entries old.apart m.entries w);
    updates = λ some k. let u = h.3 (subst IsSome (finds_number m o old key x is) some) in updated m n o old h.4 key x is new (Some w) u.0 k;
    unique = whole_unique n o new;
    room = ap (λ a. min a (spare o)) h.6;
  }
    where
      new : IsParted n o
      new = parted_numbers m n o old h.4 (All-same IsSmall (keys n) (keys m) h.1 old.small)

  module _ (m : HashMap ℕ X S) (o p : HashMap Value X T) (old : IsParted m o) (unique : IsUnique equal p) where
    parted_others : All IsOther (keys p) → IsParted m p
    parted_others h = record { small = old.small; apart = h; numbers_unique = old.numbers_unique; others_unique = unique }

    pub other_same : p.entries ≡ o.entries → IsParted m p
    other_same h = parted_others (All-same IsOther (keys p) (keys o) (ap keys_of h) old.apart)

    module _ (key : Value) (is : small_in (datum_of key) ≡ None) where
      pub other_put : (v : X) (was : Option X) → (IsSome was → keys p ≡ keys o) → PutsEntry equal o p key v was → IsParted m p
      other_put v was stay h = parted_others (All-put IsOther equal o.entries p.entries key v was is old.apart stay h)

      pub other_removed : IsPermutation (remove_entry (equal key) o.entries) p.entries → IsParted m p
      other_removed h = parted_others (All-moved IsOther (remove_entry (equal key) o.entries) p.entries h (All-removed IsOther (equal key) o.entries old.apart))

      pub other_updated : IsParted m p → (w : Option X) → ((q : Value) → get equal p q ≡ cond (equal key q) w (get equal o q)) → (k : Value) → get equal (whole m p) k ≡ cond (equal key k) w (get equal (whole m o) k)
      other_updated new w h k = step (small_in (datum_of k)) refl
        where
          step : (a : Option ℕ) → small_in (datum_of k) ≡ a → get equal (whole m p) k ≡ cond (equal key k) w (get equal (whole m o) k)
          step (Some q) e = rw (finds_number m p new k q e, finds_number m o old k q e, apart_back k key q e is) refl
          step None e = rw (finds_other m p new k e, finds_other m o old k e) (h k)

      pub other_puts : (v : X) (was : Option X) → PutsEntry equal o p key v was → PutsEntry equal (whole m o) (whole m p) (kept_key key) v was
      other_puts v was h = subst (λ k. PutsEntry equal (whole m o) (whole m p) k v was) (sym (ap (λ a. key_or a key) is)) (step was h)
        where
          step : (was : Option X) → PutsEntry equal o p key v was → PutsEntry equal (whole m o) (whole m p) key v was
          step None h = both_more m.entries o.entries p.entries (key, v) h
          step (Some w) h = ap (both m.entries) h ∙ sym (set_other key is o.entries m.entries v old.small)

      pub other_removes : IsPermutation (remove_entry (equal key) o.entries) p.entries → IsPermutation (remove_entry (equal key) (both m.entries o.entries)) (both m.entries p.entries)
      other_removes h = rw (remove_other key is o.entries m.entries old.small) (both_permuted m.entries m.entries (remove_entry (equal key) o.entries) p.entries (IsPermutation-refl m.entries) h)

  pub writes_other : (m : HashMap ℕ X S) (o p : HashMap Value X T) → IsParted m o → (key : Value) → small_in (datum_of key) ≡ None → (w : X) → WritesThrough equal (equal key) o w p → Writes (whole m o) key w (whole m p)
  writes_other m o p old key is w h = record {
    entries = ap (both m.entries) h.0 ∙ sym (set_other key is o.entries m.entries w old.small);
    updates = λ some k. let u = h.3 (subst IsSome (finds_other m o old key is) some) in other_updated m o p old h.4 key is new (Some w) u.0 k;
    unique = whole_unique m p new;
    room = ap (min (spare m)) h.6;
  }
    where
      new : IsParted m p
      new = parted_others m o p old h.4 (All-same IsOther (keys p) (keys o) h.1 old.apart)

  -- the entries of each in another order
  module _ (m n : HashMap ℕ X S) (o p : HashMap Value X T) (old : IsParted m o) (ns : IsReordered nat_eq m n) (ps : IsReordered equal o p) where
    pub parted_moved : IsUnique nat_eq n → IsUnique equal p → IsParted n p
    parted_moved u v = record { small = All-moved IsSmall m.entries n.entries ns.0 old.small; apart = All-moved IsOther o.entries p.entries ps.0 old.apart; numbers_unique = u; others_unique = v }

    pub whole_moved : IsParted n p → IsReordered equal (whole m o) (whole n p)
    whole_moved new = (moved, length_permutation (both m.entries o.entries) (both n.entries p.entries) moved, λ k. step k (small_in (datum_of k)) refl)
      where
        moved : IsPermutation (both m.entries o.entries) (both n.entries p.entries)
        moved = both_permuted m.entries n.entries o.entries p.entries ns.0 ps.0

        step : (k : Value) (a : Option ℕ) → small_in (datum_of k) ≡ a → get equal (whole n p) k ≡ get equal (whole m o) k
        step k (Some q) e = rw (finds_number n p new k q e, finds_number m o old k q e) (ns.2 q)
        step k None e = rw (finds_other n p new k e, finds_other m o old k e) (ps.2 k)

pub values_both : {X : Type 0} (ns : List (ℕ × X)) (os : List (Value × X)) → values_of (both ns os) ≡ values_of ns ++ values_of os
values_both [] os = refl
values_both (e ∷ ns) os = ap (λ t. e.1 ∷ t) (values_both ns os)
