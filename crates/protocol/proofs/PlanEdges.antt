-- Edges by the places of their ends are those of the plan, in its order.
use Rattle.std.proofs.Common.{◌≡◌, ℕ, zero, suc, ◌+◌, ◌<◌, ◌≤◌, List, [], ◌∷◌, ◌++◌, map, flat_map, length, slice_get, slice_index_or, ◌==◌, Option, Some, None, refl, ap, sym, ◌∙◌, arith}
use Rattle.std.specs.List.{range_with_len}
use Rattle.std.proofs.lemmas.List.{map-append}
use Rattle.std.proofs.lemmas.List.FromFn.{fill_by_all}
use Rattle.plan.specs.Layouts.{SideLayout, Layout, table_at, view_at}
use Rattle.plan.specs.Facts.{IfThere, IsSide, Facts}
use Rattle.plan.proofs.Facts.{facts}
use Rattle.plan.specs.Domains as plan
use Rattle.plan.specs.declared.domain.DomainId.{DomainId}
use Rattle.plan.specs.declared.domain.DomainId.TheVariants as domain
use Rattle.plan.specs.declared.domain.Edge.{Edge}
use Rattle.model.specs.Places.{sources, source_at, right_bases, side_bases, base_at, shard_of}
use Rattle.model.proofs.PlaceLaws.{base_table, base_shard}
use Rattle.packet.specs.Readers.{Reader, is_reader, readers, readers_of}
use Rattle.protocol.specs.Edges.{Wire, to_stage_from, to_view_from, to_stage_back, to_base_back, pairs, joins, domain_of_base, domain_of_reader, source_domain, reader_domain, edge_of, reader_place, source_place}
use Rattle.protocol.specs.Laws.{EveryEdge, EveryPlace}
use Rattle.protocol.proofs.Spots.{both_true, found, same_is}
use Rattle.std.proofs.lemmas.Simd.{map-map}

-- ---- lists
-- a list by its places
by_places : {X : Type 0} (d : X) (xs : List X) → xs ≡ map (λ i. slice_index_or xs i d) (range_with_len 0 (length xs))
by_places d xs = fill_by_all (λ i. slice_index_or xs i d) xs (length xs) d refl (λ k lt. refl)

-- ---- edges
module _ (p : Layout) (f : ℕ → ℕ → Wire) (a b : ℕ → DomainId) (e : (i j : ℕ) → edge_of p (f i j) ≡ joins (a i) (b j)) where
  from_one : (i : ℕ) (js : List ℕ) → map (edge_of p) (map (f i) js) ≡ plan.edges_from (a i) (map b js)
  from_one i [] = refl
  from_one i (j ∷ js) = ap (λ x. x ∷ map (edge_of p) (map (f i) js)) (e i j) ∙ ap (λ xs. joins (a i) (b j) ∷ xs) (from_one i js)

  from_all : (is js : List ℕ) → map (edge_of p) (flat_map (λ i. map (f i) js) is) ≡ plan.pairs (map a is) (map b js)
  from_all [] js = refl
  from_all (i ∷ is) js =
      map-append (edge_of p) (map (f i) js) (flat_map (λ i. map (f i) js) is) ∙ ap (λ xs. xs ++ map (edge_of p) (flat_map (λ i. map (f i) js) is)) (from_one i js)
      ∙ ap (λ xs. plan.edges_from (a i) (map b js) ++ xs) (from_all is js)

  -- between two lists of domains
  between : (xs ys : List DomainId) (n m : ℕ) → xs ≡ map a (range_with_len 0 n) → ys ≡ map b (range_with_len 0 m) → map (edge_of p) (pairs f n m) ≡ plan.pairs xs ys
  between xs ys n m x y = from_all (range_with_len 0 n) (range_with_len 0 m) ∙ ap (λ zs. plan.pairs zs (map b (range_with_len 0 m))) (sym x) ∙ ap (plan.pairs xs) (sym y)

-- ---- domains
-- the shards of a table, from one on
shards_by : (p : Layout) (t : ℕ) → t < length p.tables → (a n : ℕ) → a + n ≤ (table_at p t).shards → map (λ n. domain.Base t n) (range_with_len a n) ≡ map (domain_of_base p) (range_with_len (base_at p t a) n)
shards_by p t there a zero le = refl
shards_by p t there a (suc n) le =
    ap (λ x. x ∷ map (λ n. domain.Base t n) (range_with_len (a + 1) n)) here
    ∙ ap (λ xs. domain_of_base p (base_at p t a) ∷ xs) (shards_by p t there (a + 1) n (omega (arith, le)) ∙ ap (λ k. map (domain_of_base p) (range_with_len k n)) next)
  where
    lt : a < (table_at p t).shards
    lt = omega (arith, le)

    here : domain.Base t a ≡ domain_of_base p (base_at p t a)
    here = sym (ap (λ k. domain.Base k (shard_of p (base_at p t a))) (base_table p t a there lt) ∙ ap (λ k. domain.Base t k) (base_shard p t a there lt))

    next : base_at p t (a + 1) ≡ base_at p t a + 1
    next = omega arith

right_by : (p : Layout) (s : Option SideLayout) → IfThere s (IsSide p) → plan.right_bases p s ≡ map (domain_of_base p) (right_bases p s)
right_by p None h = refl
right_by p (Some s) h = shards_by p s.table h.table 0 (table_at p s.table).shards (omega arith)

sources_by : (p : Layout) → Facts p → plan.sources p ≡ map (domain_of_base p) (sources p)
sources_by p good =
    ap (λ xs. xs ++ plan.right_bases p p.right) (right_by p (Some p.left) good.left) ∙ ap (λ xs. map (domain_of_base p) (side_bases p p.left) ++ xs) (right_by p p.right good.right)
    ∙ sym (map-append (domain_of_base p) (side_bases p p.left) (right_bases p p.right))

readers_by : (p : Layout) (is : List ℕ) → flat_map (plan.shards_of_view p) is ≡ map domain_of_reader (flat_map (readers_of p) is)
readers_by p [] = refl
readers_by p (i ∷ is) =
    ap (λ xs. xs ++ flat_map (plan.shards_of_view p) is) (sym (map-map domain_of_reader (λ j. record { view = i; shard = j }) (range_with_len 0 (view_at p i).shards)))
    ∙ ap (λ xs. map domain_of_reader (readers_of p i) ++ xs) (readers_by p is) ∙ sym (map-append domain_of_reader (readers_of p i) (flat_map (readers_of p) is))

-- of two lists together
both : (p : Layout) (xs ys : List Wire) (es fs : List Edge) → map (edge_of p) xs ≡ es → map (edge_of p) ys ≡ fs → map (edge_of p) (xs ++ ys) ≡ es ++ fs
both p xs ys es fs x y = map-append (edge_of p) xs ys ∙ ap (λ zs. zs ++ map (edge_of p) ys) x ∙ ap (λ zs. es ++ zs) y

pub every_edge : EveryEdge
every_edge p good =
    both p (to_stages ++ to_views ++ stages_back) bases_back (plan.pairs (plan.sources p) stages ++ plan.pairs stages (plan.view_shards p) ++ plan.pairs (plan.view_shards p) stages) (plan.pairs stages (plan.sources p))
    (both p (to_stages ++ to_views) stages_back (plan.pairs (plan.sources p) stages ++ plan.pairs stages (plan.view_shards p)) (plan.pairs (plan.view_shards p) stages)
    (both p to_stages to_views (plan.pairs (plan.sources p) stages) (plan.pairs stages (plan.view_shards p))
    (between p to_stage_from (source_domain p) domain.Stage (λ i j. refl) (plan.sources p) stages n p.stages by_source refl)
    (between p to_view_from domain.Stage (reader_domain p) (λ i j. refl) stages (plan.view_shards p) p.stages m refl by_reader))
    (between p to_stage_back (reader_domain p) domain.Stage (λ i j. refl) (plan.view_shards p) stages m p.stages by_reader refl))
    (between p to_base_back domain.Stage (source_domain p) (λ i j. refl) stages (plan.sources p) p.stages n refl by_source)
  where
    first : Reader
    first = record { view = 0; shard = 0 }

    n : ℕ
    n = length (sources p)

    m : ℕ
    m = length (readers p)

    stages : List DomainId
    stages = plan.stage_shards p

    to_stages : List Wire
    to_stages = pairs to_stage_from n p.stages

    to_views : List Wire
    to_views = pairs to_view_from p.stages m

    stages_back : List Wire
    stages_back = pairs to_stage_back m p.stages

    bases_back : List Wire
    bases_back = pairs to_base_back p.stages n

    by_source : plan.sources p ≡ map (source_domain p) (range_with_len 0 n)
    by_source = sources_by p (facts p good) ∙ (ap (map (domain_of_base p)) (by_places 0 (sources p)) ∙ map-map (domain_of_base p) (λ j. slice_index_or (sources p) j 0) (range_with_len 0 n))

    by_reader : plan.view_shards p ≡ map (reader_domain p) (range_with_len 0 m)
    by_reader = readers_by p (range_with_len 0 (length p.views)) ∙ (ap (map domain_of_reader) (by_places first (readers p)) ∙ map-map domain_of_reader (λ r. slice_index_or (readers p) r first) (range_with_len 0 m))

-- ---- places
slice_or : {X : Type 0} (xs : List X) (n : ℕ) (x d : X) → slice_get xs n ≡ Some x → slice_index_or xs n d ≡ x
slice_or [] n x d e = cc
slice_or (y ∷ ys) zero x d e = cc
slice_or (y ∷ ys) (suc n) x d e = slice_or ys n x d e

source_stands : (p : Layout) (b j : ℕ) → source_place p b ≡ Some j → source_at p j ≡ b
source_stands p b j e = let f = found (λ c. c == b) (sources p) j e in slice_or (sources p) j f.it 0 f.at ∙ same_is f.it b f.passes

reader_stands : (p : Layout) (i j r : ℕ) → reader_place p i j ≡ Some r → reader_domain p r ≡ domain.View i j
reader_stands p i j r e =
    let f = found (is_reader i j) (readers p) r e in
    let same = both_true (f.it.view == i) (f.it.shard == j) f.passes in
    ap domain_of_reader (slice_or (readers p) r f.it (record { view = 0; shard = 0 }) f.at)
    ∙ (ap (λ k. domain.View k f.it.shard) (same_is f.it.view i same.0) ∙ ap (domain.View i) (same_is f.it.shard j same.1))

pub every_place : EveryPlace
every_place p = record { sources = source_stands p; readers = reader_stands p }
