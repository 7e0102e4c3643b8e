-- Texts of domains and edges name one domain or edge of a plan each.
use Rattle.std.proofs.Common.{◌≡◌, ℕ, zero, suc, ◌+◌, ◌<◌, ◌≤◌, Bool, true, false, not, ◌&&◌, ◌||◌, ◌==◌, List, [], ◌∷◌, ◌++◌, map, flat_map, length, slice_index_or, cond, codes, refl, ap, sym, ◌∙◌, arith, Option, Some, None, Result, Ok, Err, IfOk, ◌↔◌, subst}
use Rattle.std.specs.Prelude.{nat_le, Contains}
use Rattle.std.specs.Fmt.{decimal}
use Rattle.std.specs.List.{list_all, range_with_len}
use Rattle.std.specs.Str.{bytes_eq}
use Rattle.std.proofs.lemmas.Bool.Decides.{nat_tests}
use Rattle.std.proofs.lemmas.Fmt.{decimal_digit}
use Rattle.std.proofs.lemmas.Slice.Eq.{bytes_eq-Decides}
use Rattle.std.specs.declared.alloc.AllocError.{AllocError}
use Rattle.row.specs.Bags.{Each}
use Rattle.plan.specs.Layouts.{TableLayout, SideLayout, ViewLayout, Layout, table_at, view_at, no_table, no_view}
use Rattle.plan.specs.Profile.{is_letter, is_name_byte, is_name, is_new, are_apart, view_names}
use Rattle.plan.specs.Facts.{IfThere, IsOwnName, IsTable, IsSide, IsView, Facts}
use Rattle.plan.specs.Domains.{bases_of, right_bases, sources, stage_shards, shards_of_view, view_shards, edges_from, pairs, edges, numbered, domain_text, edge_text, shards_of_table, base_shards, domains, first_with, domain_named, edge_named, IsDomainWith, IsEdgeWith}
use Rattle.plan.specs.declared.domain.DomainId.{DomainId}
use Rattle.plan.specs.declared.domain.DomainId.TheVariants as domain
use Rattle.plan.specs.declared.domain.Edge.{Edge}
use Rattle.plan.proofs.Both.{and_left, and_right, and_both}

text_same : (xs ys : List ℕ) → xs ≡ ys → bytes_eq xs ys ≡ true
text_same xs ys h = (bytes_eq-Decides xs ys).1 h

same_text : (xs ys : List ℕ) → bytes_eq xs ys ≡ true → xs ≡ ys
same_text xs ys h = (bytes_eq-Decides xs ys).0 h

-- ---- lists of which each element has a property
pub each_join : {X : Type 0} (P : X → Type 0) (xs ys : List X) → Each P xs → Each P ys → Each P (xs ++ ys)
each_join P [] ys h k = k
each_join P (x ∷ xs) ys h k = (h.0, each_join P xs ys h.1 k)

flat_each : {X Y : Type 0} (P : X → Type 0) (Q : Y → Type 0) (f : X → List Y) → ((x : X) → P x → Each Q (f x)) → (xs : List X) → Each P xs → Each Q (flat_map f xs)
flat_each P Q f h [] all = tt
flat_each P Q f h (x ∷ xs) all = each_join Q (f x) (flat_map f xs) (h x all.0) (flat_each P Q f h xs all.1)

below_each : (a k : ℕ) → Each (λ n. n < a + k) (range_with_len a k)
below_each a zero = tt
below_each a (suc k) = (omega arith, weaker (a + 1 + k) (a + suc k) (omega arith) (range_with_len (a + 1) k) (below_each (a + 1) k))
  where
    weaker : (m n : ℕ) → m ≤ n → (xs : List ℕ) → Each (λ x. x < m) xs → Each (λ x. x < n) xs
    weaker m n le [] all = tt
    weaker m n le (x ∷ xs) all = (let k = all.0 in omega arith, weaker m n le xs all.1)

map_each : {X Y : Type 0} (P : X → Type 0) (Q : Y → Type 0) (f : X → Y) → ((x : X) → P x → Q (f x)) → (xs : List X) → Each P xs → Each Q (map f xs)
map_each P Q f h [] all = tt
map_each P Q f h (x ∷ xs) all = (h x all.0, map_each P Q f h xs all.1)

each_at : {X : Type 0} (P : X → Type 0) (xs : List X) (i : ℕ) (none : X) → i < length xs → Each P xs → P (slice_index_or xs i none)
each_at P [] i none lt all = absurd (omega arith)
each_at P (x ∷ xs) zero none lt all = all.0
each_at P (x ∷ xs) (suc i) none lt all = each_at P xs i none (omega arith) all.1

all_at : {X : Type 0} (p : X → Bool) (xs : List X) (i : ℕ) (none : X) → i < length xs → list_all p xs ≡ true → p (slice_index_or xs i none) ≡ true
all_at p [] i none lt all = absurd (omega arith)
all_at p (x ∷ xs) zero none lt all = and_left (p x) (list_all p xs) all
all_at p (x ∷ xs) (suc i) none lt all = all_at p xs i none (omega arith) (and_right (p x) (list_all p xs) all)

each_there : {X : Type 0} (P : X → Type 0) (xs : List X) (x : X) (i : ℕ) → i < length xs → slice_index_or xs i x ≡ x → Each P xs → P x
each_there P xs x i lt is all = subst P is (each_at P xs i x lt all)

-- ---- the domains of a plan
abbrev pub HasDomain : Layout → DomainId → Type 0
HasDomain p (domain.Base t n) = (t < length p.tables) × (n < (table_at p t).shards)
HasDomain p (domain.Stage n) = n < p.stages
HasDomain p (domain.View v n) = (v < length p.views) × (n < (view_at p v).shards)

table_domains : (p : Layout) (t : ℕ) → t < length p.tables → Each (HasDomain p) (shards_of_table p t)
table_domains p t lt = map_each (λ n. n < 0 + (table_at p t).shards) (HasDomain p) (λ n. domain.Base t n) (λ n small. (lt, let k = small in omega arith)) (range_with_len 0 (table_at p t).shards) (below_each 0 (table_at p t).shards)

view_domains : (p : Layout) (v : ℕ) → v < length p.views → Each (HasDomain p) (shards_of_view p v)
view_domains p v lt = map_each (λ n. n < 0 + (view_at p v).shards) (HasDomain p) (λ n. domain.View v n) (λ n small. (lt, let k = small in omega arith)) (range_with_len 0 (view_at p v).shards) (below_each 0 (view_at p v).shards)

of_tables : (p : Layout) → Each (HasDomain p) (base_shards p)
of_tables p = flat_each (λ t. t < 0 + length p.tables) (HasDomain p) (shards_of_table p) (λ t lt. table_domains p t (let k = lt in omega arith)) (range_with_len 0 (length p.tables)) (below_each 0 (length p.tables))

of_stage : (p : Layout) → Each (HasDomain p) (stage_shards p)
of_stage p = map_each (λ n. n < 0 + p.stages) (HasDomain p) (λ n. domain.Stage n) (λ n lt. let k = lt in omega arith) (range_with_len 0 p.stages) (below_each 0 p.stages)

of_views : (p : Layout) → Each (HasDomain p) (view_shards p)
of_views p = flat_each (λ v. v < 0 + length p.views) (HasDomain p) (shards_of_view p) (λ v lt. view_domains p v (let k = lt in omega arith)) (range_with_len 0 (length p.views)) (below_each 0 (length p.views))

all_domains : (p : Layout) → Each (HasDomain p) (domains p)
all_domains p = each_join (HasDomain p) (base_shards p ++ stage_shards p) (view_shards p) (each_join (HasDomain p) (base_shards p) (stage_shards p) (of_tables p) (of_stage p)) (of_views p)

of_sources : (p : Layout) → Facts p → Each (HasDomain p) (sources p)
of_sources p h = each_join (HasDomain p) (bases_of p p.left) (right_bases p p.right) (table_domains p p.left.table h.left.table) (right_ones p.right h.right)
  where
    right_ones : (r : Option SideLayout) → IfThere r (IsSide p) → Each (HasDomain p) (right_bases p r)
    right_ones None k = tt
    right_ones (Some s) k = table_domains p s.table k.table

abbrev edge_of : DomainId → DomainId → Edge
edge_of a b = record { from = a; to = b }

-- the ends of an edge
abbrev HasEnds : Layout → Edge → Type 0
HasEnds p e = HasDomain p e.from × HasDomain p e.to

pairs_each : (p : Layout) (xs ys : List DomainId) → Each (HasDomain p) xs → Each (HasDomain p) ys → Each (HasEnds p) (pairs xs ys)
pairs_each p xs ys hx hy = flat_each (HasDomain p) (HasEnds p) (λ x. edges_from x ys) (λ x hx. map_each (HasDomain p) (HasEnds p) (λ y. record { from = x; to = y }) (λ y hy. (hx, hy)) ys hy) xs hx

all_edges : (p : Layout) → Facts p → Each (HasEnds p) (edges p)
all_edges p h =
    let a = of_sources p h in
    let b = of_stage p in
    let c = of_views p in
    each_join (HasEnds p) _ (pairs (stage_shards p) (sources p)) (each_join (HasEnds p) _ (pairs (view_shards p) (stage_shards p)) (each_join (HasEnds p) (pairs (sources p) (stage_shards p)) (pairs (stage_shards p) (view_shards p)) (pairs_each p _ _ a b) (pairs_each p _ _ b c)) (pairs_each p _ _ c b)) (pairs_each p _ _ b a)

-- ---- names
are_bytes : (name : List ℕ) → is_name name ≡ true → list_all is_name_byte name ≡ true
are_bytes [] h = absurd cc
are_bytes (b ∷ bs) h =
    let rest = is_letter b && list_all is_name_byte bs in
    let k = and_right (nat_le (length (b ∷ bs)) 32) rest h in
    and_both (is_name_byte b) (list_all is_name_byte bs) (or_left (is_letter b) _ (and_left (is_letter b) (list_all is_name_byte bs) k)) (and_right (is_letter b) (list_all is_name_byte bs) k)
  where
    or_left : (x y : Bool) → x ≡ true → (x || y) ≡ true
    or_left true y h = refl
    or_left false y h = absurd cc

-- what is before a mark that none of it is
before_mark : (q : ℕ → Bool) (m : ℕ) → q m ≡ false → (xs ys r s : List ℕ) → list_all q xs ≡ true → list_all q ys ≡ true → xs ++ m ∷ r ≡ ys ++ m ∷ s → (xs ≡ ys) × (r ≡ s)
before_mark q m other [] [] r s hx hy e = (refl, cc)
before_mark q m other [] (y ∷ ys) r s hx hy e =
    let k : q y ≡ true = and_left (q y) (list_all q ys) hy in
    let is : m ≡ y = cc in
    absurd (cc (other, k, ap q is))
before_mark q m other (x ∷ xs) [] r s hx hy e =
    let k : q x ≡ true = and_left (q x) (list_all q xs) hx in
    let is : x ≡ m = cc in
    absurd (cc (other, k, ap q is))
before_mark q m other (x ∷ xs) (y ∷ ys) r s hx hy e =
    let is : x ≡ y = cc in
    let tails : xs ++ m ∷ r ≡ ys ++ m ∷ s = cc in
    let more = before_mark q m other xs ys r s (and_right (q x) (list_all q xs) hx) (and_right (q y) (list_all q ys) hy) tails in
    (rw (is, more.0) refl, more.1)

digit_same : (n m : ℕ) → n < 10 → m < 10 → decimal n ≡ decimal m → n ≡ m
digit_same n m small few e =
    let k : (48 + n) ∷ [] ≡ (48 + m) ∷ [] = sym (decimal_digit n small) ∙ (e ∙ decimal_digit m few) in
    let is : 48 + n ≡ 48 + m = cc in
    omega arith

numbered_same : (xs ys : List ℕ) (n m : ℕ) → list_all is_name_byte xs ≡ true → list_all is_name_byte ys ≡ true → n < 10 → m < 10 → numbered xs n ≡ numbered ys m → (xs ≡ ys) × (n ≡ m)
numbered_same xs ys n m hx hy small few e =
    let parts = before_mark is_name_byte 46 refl xs ys (decimal n) (decimal m) hx hy e in
    (parts.0, digit_same n m small few parts.1)

-- ---- names that are apart
apart_ahead : {X : Type 0} (name : X → List ℕ) (t : List ℕ) (xs : List X) (i : ℕ) (none : X) → i < length xs → is_new t (map name xs) ≡ true → t ≡ name (slice_index_or xs i none) → ⊥
apart_ahead name t [] i none lt all e = absurd (omega arith)
apart_ahead name t (x ∷ xs) zero none lt all e =
    let k : not (bytes_eq t (name x)) ≡ true = and_left _ (is_new t (map name xs)) all in
    cc (k, ap not (text_same t (name x) e))
apart_ahead name t (x ∷ xs) (suc i) none lt all e = apart_ahead name t xs i none (omega arith) (and_right (not (bytes_eq t (name x))) _ all) e

apart_same : {X : Type 0} (name : X → List ℕ) (xs : List X) (i j : ℕ) (none : X) → i < length xs → j < length xs → are_apart (map name xs) ≡ true → name (slice_index_or xs i none) ≡ name (slice_index_or xs j none) → i ≡ j
apart_same name [] i j none lt less all e = absurd (omega arith)
apart_same name (x ∷ xs) zero zero none lt less all e = refl
apart_same name (x ∷ xs) zero (suc j) none lt less all e = absurd (apart_ahead name (name x) xs j none (omega arith) (and_left (is_new (name x) (map name xs)) _ all) e)
apart_same name (x ∷ xs) (suc i) zero none lt less all e = absurd (apart_ahead name (name x) xs i none (omega arith) (and_left (is_new (name x) (map name xs)) _ all) (sym e))
apart_same name (x ∷ xs) (suc i) (suc j) none lt less all e = ap suc (apart_same name xs i j none (omega arith) (omega arith) (and_right (is_new (name x) (map name xs)) _ all) e)

-- ---- a domain has one text, and a text one domain
table_name : (p : Layout) → Facts p → (t : ℕ) → t < length p.tables → IsOwnName (table_at p t).name
table_name p h t lt = (each_at IsTable p.tables t no_table lt h.tables).name

view_name : (p : Layout) → Facts p → (v : ℕ) → v < length p.views → IsOwnName (view_at p v).name
view_name p h v lt = (each_at (IsView p) p.views v no_view lt h.views).name

name_bytes : (name : List ℕ) → IsOwnName name → list_all is_name_byte name ≡ true
name_bytes name h = are_bytes name h.form

not_stage : (name : List ℕ) → IsOwnName name → name ≡ codes "stage" → ⊥
not_stage name h e = let k : not (bytes_eq name (codes "stage")) ≡ true = h.other in cc (k, ap not (text_same name (codes "stage") e))

few_table : (p : Layout) → Facts p → (t n : ℕ) → t < length p.tables → n < (table_at p t).shards → n < 10
few_table p h t n lt small = let k = (each_at IsTable p.tables t no_table lt h.tables).shards.most_of in omega arith

few_view : (p : Layout) → Facts p → (v n : ℕ) → v < length p.views → n < (view_at p v).shards → n < 10
few_view p h v n lt small = let k = (each_at (IsView p) p.views v no_view lt h.views).shards.most_of in omega arith

few_stage : (p : Layout) → Facts p → (n : ℕ) → n < p.stages → n < 10
few_stage p h n small = let k = h.stages.most_of in omega arith

stage_bytes : list_all is_name_byte (codes "stage") ≡ true
stage_bytes = refl

no_table_view : (p : Layout) → Facts p → (t v : ℕ) → t < length p.tables → v < length p.views → (table_at p t).name ≡ (view_at p v).name → ⊥
no_table_view p h t v lt less e =
    let new = all_at (λ (t : TableLayout). is_new t.name (view_names p.views)) p.tables t no_table lt h.both_apart in
    apart_ahead (λ (v : ViewLayout). v.name) (table_at p t).name p.views v no_view less new e

pub one_text : (p : Layout) → Facts p → (x y : DomainId) → HasDomain p x → HasDomain p y → domain_text p x ≡ domain_text p y → x ≡ y
one_text p h (domain.Base t n) (domain.Base u m) hx hy e =
    let parts = numbered_same (table_at p t).name (table_at p u).name n m (name_bytes (table_at p t).name (table_name p h t hx.0)) (name_bytes (table_at p u).name (table_name p h u hy.0)) (few_table p h t n hx.0 hx.1) (few_table p h u m hy.0 hy.1) e in
    rw (apart_same (λ (t : TableLayout). t.name) p.tables t u no_table hx.0 hy.0 h.tables_apart parts.0, parts.1) refl
one_text p h (domain.Base t n) (domain.Stage m) hx hy e =
    let parts = numbered_same (table_at p t).name (codes "stage") n m (name_bytes (table_at p t).name (table_name p h t hx.0)) stage_bytes (few_table p h t n hx.0 hx.1) (few_stage p h m hy) e in
    absurd (not_stage (table_at p t).name (table_name p h t hx.0) parts.0)
one_text p h (domain.Base t n) (domain.View v m) hx hy e =
    let parts = numbered_same (table_at p t).name (view_at p v).name n m (name_bytes (table_at p t).name (table_name p h t hx.0)) (name_bytes (view_at p v).name (view_name p h v hy.0)) (few_table p h t n hx.0 hx.1) (few_view p h v m hy.0 hy.1) e in
    absurd (no_table_view p h t v hx.0 hy.0 parts.0)
one_text p h (domain.Stage n) (domain.Base u m) hx hy e =
    let parts = numbered_same (codes "stage") (table_at p u).name n m stage_bytes (name_bytes (table_at p u).name (table_name p h u hy.0)) (few_stage p h n hx) (few_table p h u m hy.0 hy.1) e in
    absurd (not_stage (table_at p u).name (table_name p h u hy.0) (sym parts.0))
one_text p h (domain.Stage n) (domain.Stage m) hx hy e =
    let parts = numbered_same (codes "stage") (codes "stage") n m stage_bytes stage_bytes (few_stage p h n hx) (few_stage p h m hy) e in
    rw (parts.1) refl
one_text p h (domain.Stage n) (domain.View v m) hx hy e =
    let parts = numbered_same (codes "stage") (view_at p v).name n m stage_bytes (name_bytes (view_at p v).name (view_name p h v hy.0)) (few_stage p h n hx) (few_view p h v m hy.0 hy.1) e in
    absurd (not_stage (view_at p v).name (view_name p h v hy.0) (sym parts.0))
one_text p h (domain.View w n) (domain.Base u m) hx hy e =
    let parts = numbered_same (view_at p w).name (table_at p u).name n m (name_bytes (view_at p w).name (view_name p h w hx.0)) (name_bytes (table_at p u).name (table_name p h u hy.0)) (few_view p h w n hx.0 hx.1) (few_table p h u m hy.0 hy.1) e in
    absurd (no_table_view p h u w hy.0 hx.0 (sym parts.0))
one_text p h (domain.View w n) (domain.Stage m) hx hy e =
    let parts = numbered_same (view_at p w).name (codes "stage") n m (name_bytes (view_at p w).name (view_name p h w hx.0)) stage_bytes (few_view p h w n hx.0 hx.1) (few_stage p h m hy) e in
    absurd (not_stage (view_at p w).name (view_name p h w hx.0) parts.0)
one_text p h (domain.View w n) (domain.View v m) hx hy e =
    let parts = numbered_same (view_at p w).name (view_at p v).name n m (name_bytes (view_at p w).name (view_name p h w hx.0)) (name_bytes (view_at p v).name (view_name p h v hy.0)) (few_view p h w n hx.0 hx.1) (few_view p h v m hy.0 hy.1) e in
    rw (apart_same (λ (v : ViewLayout). v.name) p.views w v no_view hx.0 hy.0 h.views_apart parts.0, parts.1) refl

-- ---- an edge has one text, and a text one edge
abbrev is_domain_byte : ℕ → Bool
is_domain_byte b = is_name_byte b || b == 46

all_more : (xs : List ℕ) → list_all is_name_byte xs ≡ true → list_all is_domain_byte xs ≡ true
all_more [] h = refl
all_more (x ∷ xs) h = and_both (is_domain_byte x) (list_all is_domain_byte xs) (or_left (is_name_byte x) _ (and_left (is_name_byte x) (list_all is_name_byte xs) h)) (all_more xs (and_right (is_name_byte x) (list_all is_name_byte xs) h))
  where
    or_left : (x y : Bool) → x ≡ true → (x || y) ≡ true
    or_left true y h = refl
    or_left false y h = absurd cc

all_join : (q : ℕ → Bool) (xs ys : List ℕ) → list_all q xs ≡ true → list_all q ys ≡ true → list_all q (xs ++ ys) ≡ true
all_join q [] ys h k = k
all_join q (x ∷ xs) ys h k = and_both (q x) (list_all q (xs ++ ys)) (and_left (q x) (list_all q xs) h) (all_join q xs ys (and_right (q x) (list_all q xs) h) k)

digit_bytes : (n : ℕ) → n < 10 → list_all is_domain_byte (decimal n) ≡ true
digit_bytes n small = rw (decimal_digit n small) (digit n small)
  where
    digit : (n : ℕ) → n < 10 → list_all is_domain_byte ((48 + n) ∷ []) ≡ true
    digit n small = grind (arith, nat_tests)

numbered_bytes : (name : List ℕ) (n : ℕ) → list_all is_name_byte name ≡ true → n < 10 → list_all is_domain_byte (numbered name n) ≡ true
numbered_bytes name n h small = all_join is_domain_byte name (codes "." ++ decimal n) (all_more name h) (digit_bytes n small)

domain_bytes : (p : Layout) → Facts p → (x : DomainId) → HasDomain p x → list_all is_domain_byte (domain_text p x) ≡ true
domain_bytes p h (domain.Base t n) hx = numbered_bytes (table_at p t).name n (name_bytes (table_at p t).name (table_name p h t hx.0)) (few_table p h t n hx.0 hx.1)
domain_bytes p h (domain.Stage n) hx = numbered_bytes (codes "stage") n stage_bytes (few_stage p h n hx)
domain_bytes p h (domain.View v n) hx = numbered_bytes (view_at p v).name n (name_bytes (view_at p v).name (view_name p h v hx.0)) (few_view p h v n hx.0 hx.1)

both_ends : (a b c d : DomainId) → a ≡ c → b ≡ d → edge_of a b ≡ edge_of c d
both_ends a b c d h k = rw (h, k) refl

pub one_edge_text : (p : Layout) → Facts p → (x y : Edge) → HasEnds p x → HasEnds p y → edge_text p x ≡ edge_text p y → x ≡ y
one_edge_text p h x y hx hy e =
    let parts = before_mark is_domain_byte 62 refl (domain_text p x.from) (domain_text p y.from) (domain_text p x.to) (domain_text p y.to) (domain_bytes p h x.from hx.0) (domain_bytes p h y.from hy.0) e in
    let froms : x.from ≡ y.from = one_text p h x.from y.from hx.0 hy.0 parts.0 in
    let tos : x.to ≡ y.to = one_text p h x.to y.to hx.1 hy.1 parts.1 in
    both_ends x.from x.to y.from y.to froms tos

-- ---- the first of a list with a text, where no two have one
-- what is found stands there, with the text
abbrev IsThere : {X : Type 0} → (X → List ℕ) → List ℕ → List X → X → Type 0
IsThere of bs xs x = (k : ℕ) × (k < length xs) × (slice_index_or xs k x ≡ x) × (of x ≡ bs)

found_there : {X : Type 0} (of : X → List ℕ) (bs : List ℕ) (xs : List X) (x : X) → first_with of bs xs ≡ Some x → IsThere of bs xs x
found_there of bs [] x e = absurd cc
found_there {X} of bs (y ∷ ys) x e = step (bytes_eq (of y) bs) refl e (λ k. found_there of bs ys x k)
  where
    step : (b : Bool) → bytes_eq (of y) bs ≡ b → cond b (Some y) (first_with of bs ys) ≡ Some x → (first_with of bs ys ≡ Some x → IsThere of bs ys x) → IsThere of bs (y ∷ ys) x
    step true same e rest = let is : y ≡ x = cc in (0, omega arith, is, ap of (sym is) ∙ same_text (of y) bs same)
    step false same e rest = let r = rest e in (suc r.0, omega (arith, r.1), r.2, r.3)

-- what stands there with the text is found
there_found : {X : Type 0} (of : X → List ℕ) (bs : List ℕ) (P : X → Type 0) → ((x y : X) → P x → P y → of x ≡ of y → x ≡ y) → (xs : List X) (x : X) (k : ℕ) → k < length xs → slice_index_or xs k x ≡ x → P x → Each P xs → of x ≡ bs → first_with of bs xs ≡ Some x
there_found of bs P single [] x k lt is hx all e = absurd (omega arith)
there_found {X} of bs P single (y ∷ ys) x k lt is hx all e = step (bytes_eq (of y) bs) refl (λ j less there. there_found of bs P single ys x j less there hx all.1 e)
  where
    later : (k : ℕ) → k < length (y ∷ ys) → slice_index_or (y ∷ ys) k x ≡ x → bytes_eq (of y) bs ≡ false → (j : ℕ) × (j < length ys) × (slice_index_or ys j x ≡ x)
    later zero lt is other = absurd (cc (other, text_same (of y) bs (ap of is ∙ e)))
    later (suc k) lt is other = (k, omega arith, is)

    step : (b : Bool) → bytes_eq (of y) bs ≡ b → ((j : ℕ) → j < length ys → slice_index_or ys j x ≡ x → first_with of bs ys ≡ Some x) → cond b (Some y) (first_with of bs ys) ≡ Some x
    step true same rest = ap Some (single y x all.0 hx (same_text (of y) bs same ∙ sym e))
    step false same rest = let r = later k lt is same in rest r.0 r.1 r.2

-- ---- the laws
named_law : {X : Type 0} (of : X → List ℕ) (bs : List ℕ) (P : X → Type 0) → ((x y : X) → P x → P y → of x ≡ of y → x ≡ y) → (xs : List X) → Each P xs → (x : X) → (first_with of bs xs ≡ Some x) ↔ (Contains xs x × (of x ≡ bs))
named_law {X} of bs P single xs all x = (there, found)
  where
    there : first_with of bs xs ≡ Some x → Contains xs x × (of x ≡ bs)
    there e = let r = found_there of bs xs x e in ((r.0, r.1, r.2), r.3)

    found : Contains xs x × (of x ≡ bs) → first_with of bs xs ≡ Some x
    found r = there_found of bs P single xs x r.0.0 r.0.1 r.0.2 (each_there P xs x r.0.0 r.0.1 r.0.2 all) all r.1

pub domain_law : (p : Layout) → Facts p → (bs : List ℕ) (x : DomainId) → (domain_named p bs ≡ Some x) ↔ (Contains (domains p) x × (domain_text p x ≡ bs))
domain_law p h bs = named_law (domain_text p) bs (HasDomain p) (one_text p h) (domains p) (all_domains p)

pub edge_law : (p : Layout) → Facts p → (bs : List ℕ) (x : Edge) → (edge_named p bs ≡ Some x) ↔ (Contains (edges p) x × (edge_text p x ≡ bs))
edge_law p h bs = named_law (edge_text p) bs (HasEnds p) (one_edge_text p h) (edges p) (all_edges p h)

-- of an answer that may be want of memory
pub domain_answer : (p : Layout) → Facts p → (bs : List ℕ) (r : Result (Option DomainId) AllocError) → IfOk r (λ d. d ≡ domain_named p bs) → IfOk r (IsDomainWith p bs)
domain_answer p h bs (Ok d) e = λ x. rw (e) (domain_law p h bs x)
domain_answer p h bs (Err a) e = tt

pub edge_answer : (p : Layout) → Facts p → (bs : List ℕ) (r : Result (Option Edge) AllocError) → IfOk r (λ d. d ≡ edge_named p bs) → IfOk r (IsEdgeWith p bs)
edge_answer p h bs (Ok d) e = λ x. rw (e) (edge_law p h bs x)
edge_answer p h bs (Err a) e = tt
