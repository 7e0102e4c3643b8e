-- Places of base shards among the sources, and of readers.
use Rattle.std.proofs.Common.{◌≡◌, ℕ, zero, suc, ◌+◌, ◌<◌, ◌==◌, ◌&&◌, Bool, true, false, cond, List, [], ◌∷◌, ◌++◌, Option, Some, None, flat_map, length, slice_get, position, refl, ap, sym, ◌∙◌, subst, arith}
use Rattle.std.specs.List.{range_with_len}
use Rattle.std.proofs.lemmas.Bool.Decides.{nat_tests}
use Rattle.std.proofs.lemmas.List.Quantifiers.{position-Some}
use Rattle.row.specs.Bags.{Each}
use Rattle.plan.specs.Layouts.{SideLayout, Layout, view_at}
use Rattle.std.specs.Option.{option_map}
use Rattle.std.specs.List.{position_or_len}
use Rattle.std.specs.Prelude.{nat_lt, nat_eq, not}
use Rattle.plan.specs.Profile.{IsPlan, keeps_limits, has_own_names, has_known_places, has_single_paths, if_there}
use Rattle.plan.proofs.Facts.{facts, not_refused}
use Rattle.plan.specs.Facts.{IsSide, IfThere}
use Rattle.model.specs.Places.{base_at, table_of, side_count, side_bases, right_bases, sources}
use Rattle.model.proofs.PlaceLaws.{base_table, base_apart}
use Rattle.packet.specs.Readers.{is_reader, readers, readers_of, side_of, side_in, right_side}
use Rattle.protocol.specs.Edges.{reader_place}
use Rattle.protocol.proofs.Lists.{map_get}
use Rattle.model.proofs.Growth.{get_later}
use Rattle.plan.proofs.OwnTexts.{each_join}

pub same_is : (a b : ℕ) → (a == b) ≡ true → a ≡ b
same_is a b e = grind (arith, nat_tests)

pub is_same : (a : ℕ) → (a == a) ≡ true
is_same a = grind (arith, nat_tests)

pub apart_is : (a b c : ℕ) → (a == b) ≡ true → (a == c) ≡ false → (c == b) ≡ false
apart_is a b c e f = grind (arith, nat_tests)

-- what a place finds
pub record IsPlace {X : Type 0} (test : X → Bool) (xs : List X) (n : ℕ) : Type 0 where
  pub it : X
  pub at : slice_get xs n ≡ Some it
  pub passes : test it ≡ true

-- a list after its first element
pub position_cons : {X : Type 0} (test : X → Bool) (x : X) (xs : List X) → position test (x ∷ xs) ≡ cond (test x) (Some 0) (option_map suc (position test xs))
position_cons test x xs = by (test x) refl
  where
    more : (n m k : ℕ) (b : Bool) → nat_lt n m ≡ b → k ≡ suc n → cond (nat_lt k (suc m)) (Some k) None ≡ option_map suc (cond (nat_lt n m) (Some n) None)
    more n m k true e z = let s : nat_lt (suc n) (suc m) ≡ true = grind (arith, nat_tests) in rw (z, s, e) refl
    more n m k false e z = let s : nat_lt (suc n) (suc m) ≡ false = grind (arith, nat_tests) in rw (z, s, e) refl

    by : (b : Bool) → test x ≡ b → position test (x ∷ xs) ≡ cond b (Some 0) (option_map suc (position test xs))
    by true e = let s : nat_lt 0 (suc (length xs)) ≡ true = grind (arith, nat_tests) in rw (e, s) refl
    by false e = rw e (more (position_or_len test xs) (length xs) (1 + position_or_len test xs) (nat_lt (position_or_len test xs) (length xs)) refl (omega arith))

pub found : {X : Type 0} (test : X → Bool) (xs : List X) (n : ℕ) → position test xs ≡ Some n → IsPlace test xs n
found test [] n e = cc
found test (x ∷ xs) n e = by (test x) refl (position test xs) refl (λ m. found test xs m) (sym (position_cons test x xs) ∙ e)
  where
    by : (b : Bool) → test x ≡ b → (o : Option ℕ) → position test xs ≡ o → ((m : ℕ) → position test xs ≡ Some m → IsPlace test xs m) → cond b (Some 0) (option_map suc o) ≡ Some n → IsPlace test (x ∷ xs) n
    by true p o q rest e = let z : n ≡ 0 = cc in rw z (record { it = x; at = refl; passes = p })
    by false p None q rest e = cc
    by false p (Some m) q rest e =
        let r = rest m q in
        let z : n ≡ suc m = cc in
        rw z (record { it = r.it; at = r.at; passes = r.passes })

pub is_found : {X : Type 0} (test : X → Bool) (xs : List X) (i : ℕ) (x : X) → slice_get xs i ≡ Some x → test x ≡ true → (n : ℕ) × (position test xs ≡ Some n)
is_found test [] i x at p = cc
is_found test (y ∷ xs) zero x at p = let e : y ≡ x = cc in (0, position_cons test y xs ∙ rw e (rw p refl))
is_found test (y ∷ xs) (suc i) x at p = let r = by (test y) (is_found test xs i x at p) in (r.0, position_cons test y xs ∙ r.1)
  where
    by : (b : Bool) → ((n : ℕ) × (position test xs ≡ Some n)) → (n : ℕ) × (cond b (Some 0) (option_map suc (position test xs)) ≡ Some n)
    by true r = (0, refl)
    by false r = (suc r.0, ap (option_map suc) r.1)

-- ---- ranges
pub each_range : (P : ℕ → Type 0) (a n : ℕ) → ((k : ℕ) → k < n → P (a + k)) → Each P (range_with_len a n)
each_range P a zero g = tt
each_range P a (suc n) g =
    let e : a + 0 ≡ a = omega arith in
    (subst P e (g 0 (omega arith)), each_range P (a + 1) n (λ k lt. let f : a + suc k ≡ a + 1 + k = omega arith in subst P f (g (suc k) (omega arith))))

abbrev pub AreOnce : List ℕ → Type 0
AreOnce [] = Unit {0}
AreOnce (x ∷ xs) = Each (λ y. (x == y) ≡ false) xs × AreOnce xs

once_range : (a n : ℕ) → AreOnce (range_with_len a n)
once_range a zero = tt
once_range a (suc n) = (each_range (λ y. (a == y) ≡ false) (a + 1) n (λ k lt. grind (arith, nat_tests)), once_range (a + 1) n)

once_append : (xs ys : List ℕ) → AreOnce xs → AreOnce ys → Each (λ x. Each (λ y. (x == y) ≡ false) ys) xs → AreOnce (xs ++ ys)
once_append [] ys a b c = b
once_append (x ∷ xs) ys a b c = (each_join (λ y. (x == y) ≡ false) xs ys a.0 c.0, once_append xs ys a.1 b c.1)

-- ---- sources
pub at_start : (p : Layout) (t k : ℕ) → base_at p t 0 + k ≡ base_at p t k
at_start p t k = omega arith

pub unequal : (a b : ℕ) → (a ≡ b → ⊥) → (a == b) ≡ false
unequal a b f = by (a == b) refl
  where
    by : (c : Bool) → (a == b) ≡ c → (a == b) ≡ false
    by true e = absurd (f (same_is a b e))
    by false e = e

-- the two sides are of two tables
single : (p : Layout) → IsPlan p → has_single_paths p ≡ true
unfolding IsPlan
single p plan =
    let n = not_refused (keeps_limits p) 26 _ plan in
    let k = not_refused (has_own_names p) 27 _ n.1 in
    let s = not_refused (has_known_places p) 22 _ k.1 in
    (not_refused (has_single_paths p) 24 _ s.1).0

pub two_tables : (p : Layout) (side : SideLayout) → IsPlan p → p.right ≡ Some side → p.left.table ≡ side.table → ⊥
two_tables p side plan is e =
    let s : not (nat_eq side.table p.left.table) ≡ true = ap (if_there (λ (s : SideLayout). not (nat_eq s.table p.left.table))) (sym is) ∙ single p plan in
    absurd (grind (arith, nat_tests))

-- no source is a later one
pub sources_once : (p : Layout) → IsPlan p → AreOnce (sources p)
sources_once p g = by p.right refl
  where
    by : (right : Option SideLayout) → p.right ≡ right → AreOnce (side_bases p p.left ++ right_bases p right)
    by None e = once_append (side_bases p p.left) [] (once_range (base_at p p.left.table 0) (side_count p p.left)) tt
        (each_range (λ x. Unit {0}) (base_at p p.left.table 0) (side_count p p.left) (λ k lt. tt))
    by (Some side) e =
        let r : IsSide p side = subst (λ (o : Option SideLayout). IfThere o (IsSide p)) e (facts p g).right in
        once_append (side_bases p p.left) (side_bases p side) (once_range (base_at p p.left.table 0) (side_count p p.left)) (once_range (base_at p side.table 0) (side_count p side))
        (each_range (λ x. Each (λ y. (x == y) ≡ false) (side_bases p side)) (base_at p p.left.table 0) (side_count p p.left) (λ k lt.
        each_range (λ y. (base_at p p.left.table 0 + k == y) ≡ false) (base_at p side.table 0) (side_count p side) (λ m ml.
        unequal (base_at p p.left.table 0 + k) (base_at p side.table 0 + m) (λ q.
        two_tables p side g e (base_apart p p.left.table k side.table m (facts p g).left.table lt r.table ml (sym (at_start p p.left.table k) ∙ (q ∙ at_start p side.table m))).0))))

abbrev pub HasSide : Layout → ℕ → Type 0
HasSide p b = (side : SideLayout) × (side_of p b ≡ Some side)

left_side : (p : Layout) (k : ℕ) → IsPlan p → k < side_count p p.left → HasSide p (base_at p p.left.table 0 + k)
left_side p k g lt =
    let e : table_of p (base_at p p.left.table 0 + k) ≡ p.left.table = ap (table_of p) (at_start p p.left.table k) ∙ base_table p p.left.table k (facts p g).left.table lt in
    (p.left, ap (side_in p) e ∙ rw (is_same p.left.table) refl)

some_side : (p : Layout) (side : SideLayout) (b : Bool) → (found : SideLayout) × (cond b (Some p.left) (cond (side.table == side.table) (Some side) None) ≡ Some found)
some_side p side true = (p.left, refl)
some_side p side false = (side, rw (is_same side.table) refl)

right_side_of : (p : Layout) (side : SideLayout) (k : ℕ) → IsPlan p → p.right ≡ Some side → k < side_count p side → HasSide p (base_at p side.table 0 + k)
right_side_of p side k g is lt =
    let r : IsSide p side = subst (λ (o : Option SideLayout). IfThere o (IsSide p)) is (facts p g).right in
    let e : table_of p (base_at p side.table 0 + k) ≡ side.table = ap (table_of p) (at_start p side.table k) ∙ base_table p side.table k r.table lt in
    let s = some_side p side (side.table == p.left.table) in
    (s.0, ap (side_in p) e ∙ (ap (λ (o : Option SideLayout). cond (side.table == p.left.table) (Some p.left) (right_side side.table o)) is ∙ s.1))

-- each source is of a side
pub sources_sided : (p : Layout) → IsPlan p → Each (HasSide p) (sources p)
sources_sided p g = each_join (HasSide p) (side_bases p p.left) (right_bases p p.right) (each_range (HasSide p) (base_at p p.left.table 0) (side_count p p.left) (λ k lt. left_side p k g lt)) (by p.right refl)
  where
    by : (right : Option SideLayout) → p.right ≡ right → Each (HasSide p) (right_bases p right)
    by None e = tt
    by (Some side) e = each_range (HasSide p) (base_at p side.table 0) (side_count p side) (λ k lt. right_side_of p side k g e lt)

-- ---- readers
pub range_get : (a n k : ℕ) → k < n → slice_get (range_with_len a n) k ≡ Some (a + k)
range_get a zero k lt = absurd (omega arith)
range_get a (suc n) zero lt = let e : a + 0 ≡ a = omega arith in rw e refl
range_get a (suc n) (suc k) lt = let e : a + suc k ≡ a + 1 + k = omega arith in rw e (range_get (a + 1) n k (omega arith))

-- an element is somewhere in the list
abbrev pub IsIn : {X : Type 0} → X → List X → Type 0
IsIn x xs = (n : ℕ) × (slice_get xs n ≡ Some x)

pub in_right : {X : Type 0} (x : X) (xs ys : List X) (n : ℕ) → slice_get ys n ≡ Some x → IsIn x (xs ++ ys)
in_right x [] ys n at = (n, at)
in_right x (z ∷ xs) ys n at = let r = in_right x xs ys n at in (suc r.0, r.1)

pub in_flat : {X Y : Type 0} (f : X → List Y) (y : Y) (xs : List X) (x : X) (i n : ℕ) → slice_get xs i ≡ Some x → slice_get (f x) n ≡ Some y → IsIn y (flat_map f xs)
in_flat f y [] x i n at e = cc
in_flat f y (z ∷ xs) x zero n at e = let s : z ≡ x = cc in (n, get_later (f z) (flat_map f xs) n y (ap (λ v. slice_get (f v) n) s ∙ e))
in_flat f y (z ∷ xs) x (suc i) n at e = let r = in_flat f y xs x i n at e in in_right y (f z) (flat_map f xs) r.0 r.1

-- a reader passes its own test
pub reader_passes : (i j : ℕ) → is_reader i j (record { view = i; shard = j }) ≡ true
reader_passes i j = rw (is_same i) (is_same j)

-- each shard of a view is among the readers
pub reader_in : (p : Layout) (i j : ℕ) → i < length p.views → j < (view_at p i).shards → IsIn (record { view = i; shard = j }) (readers p)
reader_in p i j lt lj =
    let e : 0 + i ≡ i = omega arith in
    let f : 0 + j ≡ j = omega arith in
    in_flat (readers_of p) (record { view = i; shard = j }) (range_with_len 0 (length p.views)) i i j (range_get 0 (length p.views) i lt ∙ ap Some e)
    (map_get (λ k. record { view = i; shard = k }) (range_with_len 0 (view_at p i).shards) j j (range_get 0 (view_at p i).shards j lj ∙ ap Some f))

-- each shard of each view is a reader
pub reader_found : (p : Layout) (i j : ℕ) → i < length p.views → j < (view_at p i).shards → (r : ℕ) × (reader_place p i j ≡ Some r)
reader_found p i j lt lj = let r = reader_in p i j lt lj in is_found (is_reader i j) (readers p) r.0 (record { view = i; shard = j }) r.1 (reader_passes i j)

pub both_true : (a b : Bool) → (a && b) ≡ true → (a ≡ true) × (b ≡ true)
both_true true b e = (refl, e)
both_true false b e = cc

-- and no two are at one place
pub readers_apart : (p : Layout) (i j k m r : ℕ) → reader_place p i j ≡ Some r → reader_place p k m ≡ Some r → (i ≡ k) × (j ≡ m)
readers_apart p i j k m r e f =
    let a = found (is_reader i j) (readers p) r e in
    let b = found (is_reader k m) (readers p) r f in
    let s : a.it ≡ b.it = let x = a.at in let y = b.at in cc in
    let u = both_true (a.it.view == i) (a.it.shard == j) a.passes in
    let v = both_true (b.it.view == k) (b.it.shard == m) b.passes in
    (sym (same_is a.it.view i u.0) ∙ (ap (λ x. x.view) s ∙ same_is b.it.view k v.0), sym (same_is a.it.shard j u.1) ∙ (ap (λ x. x.shard) s ∙ same_is b.it.shard m v.1))

-- what a position finds is in the list
pub position_small : {X : Type 0} (test : X → Bool) (xs : List X) (n : ℕ) → position test xs ≡ Some n → n < length xs
position_small test [] n e = cc
position_small test (x ∷ xs) n e = (position-Some test (x ∷ xs) n x e).0
