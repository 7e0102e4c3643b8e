-- Numbers of base shards and their tables.
use Rattle.std.proofs.Common.{◌≡◌, ℕ, zero, suc, ◌+◌, ◌-◌, ◌<◌, ◌≤◌, nat_lt, Bool, true, false, List, [], ◌∷◌, ◌++◌, length, refl, ap, sym, ◌∙◌, arith, slice_index_or, map, Option, Some, None, length-append, add-one}
use Rattle.std.specs.List.{range_with_len}
use Rattle.std.proofs.lemmas.Bool.Decides.{nat_tests}
use Rattle.std.proofs.lemmas.List.{map-append}
use Rattle.std.proofs.lemmas.List.FromFn.{length-range_with_len, get_or-range_with_len}
use Rattle.plan.specs.Layouts.{TableLayout, SideLayout, Layout, no_table, table_at}
use Rattle.plan.specs.Domains.{bases_of, right_bases as domain_rights, sources as domain_sources}
use Rattle.plan.specs.declared.domain.DomainId.TheVariants as domain
use Rattle.model.specs.Places.{number_of, shards_before, base_count, base_at, table_in, shard_in, table_of, shard_of, layout_of, side_count, side_bases, right_bases, sources, source_at}

abbrev pub shards_at : List TableLayout → ℕ → ℕ
shards_at ts t = (slice_index_or ts t no_table).shards

-- ---- from the table and its shard to the number
pub number_range : (ts : List TableLayout) (t j : ℕ) → t < length ts → j < shards_at ts t → shards_before ts t + j < shards_before ts (length ts)
number_range [] t j lt lj = absurd (omega arith)
number_range (x ∷ ts) zero j lt lj = omega arith
number_range (x ∷ ts) (suc t) j lt lj = let rest = number_range ts t j (omega arith) lj in omega arith

pub table_there : (ts : List TableLayout) (t j : ℕ) → t < length ts → j < shards_at ts t → table_in ts (shards_before ts t + j) ≡ t
table_there [] t j lt lj = absurd (omega arith)
table_there (x ∷ ts) zero j lt lj = let is : nat_lt (0 + j) x.shards ≡ true = grind (arith, nat_tests) in rw (is) refl
table_there (x ∷ ts) (suc t) j lt lj =
    let is : nat_lt ((x.shards + shards_before ts t) + j) x.shards ≡ false = grind (arith, nat_tests) in
    let less : (x.shards + shards_before ts t) + j - x.shards ≡ shards_before ts t + j = omega arith in
    let rest = table_there ts t j (omega arith) lj in
    rw (is, less, rest) refl

pub shard_there : (ts : List TableLayout) (t j : ℕ) → t < length ts → j < shards_at ts t → shard_in ts (shards_before ts t + j) ≡ j
shard_there [] t j lt lj = absurd (omega arith)
shard_there (x ∷ ts) zero j lt lj = let is : nat_lt (0 + j) x.shards ≡ true = grind (arith, nat_tests) in rw (is) (omega arith)
shard_there (x ∷ ts) (suc t) j lt lj =
    let is : nat_lt ((x.shards + shards_before ts t) + j) x.shards ≡ false = grind (arith, nat_tests) in
    let less : (x.shards + shards_before ts t) + j - x.shards ≡ shards_before ts t + j = omega arith in
    let rest = shard_there ts t j (omega arith) lj in
    rw (is, less) rest

-- ---- and back
pub record IsPlaced (ts : List TableLayout) (b : ℕ) : Type 0 where
  pub table : table_in ts b < length ts
  pub shard : shard_in ts b < shards_at ts (table_in ts b)
  pub number : shards_before ts (table_in ts b) + shard_in ts b ≡ b

pub placed : (ts : List TableLayout) (b : ℕ) → b < shards_before ts (length ts) → IsPlaced ts b
placed [] b lt = absurd (omega arith)
placed (x ∷ ts) b lt = step (nat_lt b x.shards) refl (placed ts (b - x.shards))
  where
    step : (c : Bool) → nat_lt b x.shards ≡ c → (b - x.shards < shards_before ts (length ts) → IsPlaced ts (b - x.shards)) → IsPlaced (x ∷ ts) b
    step true e rest =
        let small : b < x.shards = grind (arith, nat_tests) in
        record { table = rw (e) (omega arith); shard = rw (e) small; number = rw (e) (omega arith) }
    step false e rest =
        let great : x.shards ≤ b = grind (arith, nat_tests) in
        let r = rest (omega arith) in
        record { table = rw (e) (let t = r.table in omega arith); shard = rw (e) r.shard; number = rw (e) (let t = r.number in omega arith) }

pub base_range : (p : Layout) (t j : ℕ) → t < length p.tables → j < (table_at p t).shards → base_at p t j < base_count p
base_range p t j lt lj = number_range p.tables t j lt lj

pub base_table : (p : Layout) (t j : ℕ) → t < length p.tables → j < (table_at p t).shards → table_of p (base_at p t j) ≡ t
base_table p t j lt lj = table_there p.tables t j lt lj

pub base_shard : (p : Layout) (t j : ℕ) → t < length p.tables → j < (table_at p t).shards → shard_of p (base_at p t j) ≡ j
base_shard p t j lt lj = shard_there p.tables t j lt lj

pub base_layout : (p : Layout) (t j : ℕ) → t < length p.tables → j < (table_at p t).shards → layout_of p (base_at p t j) ≡ table_at p t
base_layout p t j lt lj = ap (table_at p) (base_table p t j lt lj)

-- two numbers of one value are of one table and shard
pub base_apart : (p : Layout) (t j t' j' : ℕ) → t < length p.tables → j < (table_at p t).shards → t' < length p.tables → j' < (table_at p t').shards
    → base_at p t j ≡ base_at p t' j' → (t ≡ t') × (j ≡ j')
base_apart p t j t' j' lt lj lt' lj' e =
    (sym (base_table p t j lt lj) ∙ (ap (table_of p) e ∙ base_table p t' j' lt' lj'), sym (base_shard p t j lt lj) ∙ (ap (shard_of p) e ∙ base_shard p t' j' lt' lj'))

-- ---- sources
pub get_left : (xs ys : List ℕ) (j d : ℕ) → j < length xs → slice_index_or (xs ++ ys) j d ≡ slice_index_or xs j d
get_left [] ys j d lt = absurd (omega arith)
get_left (x ∷ xs) ys zero d lt = refl
get_left (x ∷ xs) ys (suc j) d lt = get_left xs ys j d (omega arith)

pub get_right : (xs ys : List ℕ) (j d : ℕ) → slice_index_or (xs ++ ys) (length xs + j) d ≡ slice_index_or ys j d
get_right [] ys j d = let e : 0 + j ≡ j = omega arith in rw (e) refl
get_right (x ∷ xs) ys j d = let e : suc (length xs) + j ≡ suc (length xs + j) = omega arith in rw (e) (get_right xs ys j d)

pub source_left : (p : Layout) (j : ℕ) → j < side_count p p.left → source_at p j ≡ base_at p p.left.table j
source_left p j lt =
    let small : j < length (side_bases p p.left) = let e = length-range_with_len (base_at p p.left.table 0) (side_count p p.left) in omega (arith, e) in
    get_left (side_bases p p.left) (right_bases p p.right) j 0 small ∙ (get_or-range_with_len (base_at p p.left.table 0) (side_count p p.left) j 0 lt ∙ omega arith)

pub source_right : (p : Layout) (side : SideLayout) (j : ℕ) → p.right ≡ Some side → j < side_count p side → source_at p (side_count p p.left + j) ≡ base_at p side.table j
source_right p side j is lt =
    let e = length-range_with_len (base_at p p.left.table 0) (side_count p p.left) in
    ap (λ (o : Option SideLayout). slice_index_or (side_bases p p.left ++ right_bases p o) (side_count p p.left + j) 0) is
    ∙ (ap (λ (n : ℕ). slice_index_or (side_bases p p.left ++ side_bases p side) (n + j) 0) (sym e)
    ∙ (get_right (side_bases p p.left) (side_bases p side) j 0 ∙ (get_or-range_with_len (base_at p side.table 0) (side_count p side) j 0 lt ∙ omega arith)))

pub source_count : (p : Layout) (side : SideLayout) → p.right ≡ Some side → length (sources p) ≡ side_count p p.left + side_count p side
source_count p side is = ap (λ (o : Option SideLayout). length (side_bases p p.left ++ right_bases p o)) is ∙ (omega (arith, length-append (side_bases p p.left) (side_bases p side), length-range_with_len (base_at p p.left.table 0) (side_count p p.left), length-range_with_len (base_at p side.table 0) (side_count p side)))

pub source_count_left : (p : Layout) → p.right ≡ None → length (sources p) ≡ side_count p p.left
source_count_left p is = ap (λ (o : Option SideLayout). length (side_bases p p.left ++ right_bases p o)) is ∙ (omega (arith, length-append (side_bases p p.left) [], length-range_with_len (base_at p p.left.table 0) (side_count p p.left)))

-- ---- the shards of one more table
pub before_none : (ts : List TableLayout) → shards_before ts 0 ≡ 0
before_none [] = refl
before_none (x ∷ ts) = refl

pub before_more : (ts : List TableLayout) (t : ℕ) → t < length ts → shards_before ts (t + 1) ≡ shards_before ts t + (slice_index_or ts t no_table).shards
before_more [] t lt = absurd (omega arith)
before_more (x ∷ ts) zero lt = omega (arith, before_none ts)
before_more (x ∷ ts) (suc t) lt = rw (add-one (suc t)) (let rest = before_more ts t (omega arith) in let e : shards_before ts (suc t) ≡ shards_before ts (t + 1) = ap (shards_before ts) (sym (add-one t)) in omega (arith, rest, e))

-- ---- one more number
pub range_more : (a n x : ℕ) → x ≡ a + n → range_with_len a n ++ x ∷ [] ≡ range_with_len a (n + 1)
range_more a zero x e = let same : x ≡ a = omega (arith, e) in ap (λ y. y ∷ []) same
range_more a (suc n) x e = let more : suc n + 1 ≡ suc (n + 1) = omega arith in rw more (ap (λ l. a ∷ l) (range_more (a + 1) n x (omega (arith, e))))

-- ---- the sources as domains
numbered : (p : Layout) (t a : ℕ) (n k : ℕ) → base_at p t n ≡ a → map (number_of p) (map (λ j. domain.Base t j) (range_with_len n k)) ≡ range_with_len a k
numbered p t a n zero e = refl
numbered p t a n (suc k) e = rw (e) (ap (λ l. a ∷ l) (numbered p t (a + 1) (n + 1) k (omega (arith, e))))

side_numbered : (p : Layout) (s : SideLayout) → map (number_of p) (bases_of p s) ≡ side_bases p s
side_numbered p s = numbered p s.table (base_at p s.table 0) 0 (table_at p s.table).shards refl

right_numbered : (p : Layout) (s : Option SideLayout) → map (number_of p) (domain_rights p s) ≡ right_bases p s
right_numbered p None = refl
right_numbered p (Some s) = side_numbered p s

-- a column of a cut is the source of the edges of the plan at that place
pub sources_numbered : (p : Layout) → sources p ≡ map (number_of p) (domain_sources p)
sources_numbered p = sym (map-append (number_of p) (bases_of p p.left) (domain_rights p p.right) ∙ rw (side_numbered p p.left, right_numbered p p.right) refl)
