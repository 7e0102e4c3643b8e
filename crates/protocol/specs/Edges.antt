-- Edges by the places of their ends, and their queues.
use Rattle.std.specs.Prelude.{ℕ, ◌==◌, Bool, false, ◌&&◌, List, [], ◌∷◌, ◌++◌, map, flat_map, length, position, Option, Some, None, is_some, slice_get, slice_index_or, slice_set}
use Rattle.std.specs.List.{range_with_len}
use Rattle.plan.specs.Layouts.{Layout}
use Rattle.plan.specs.Domains.{edges, domains}
use Rattle.plan.specs.declared.domain.DomainId.{DomainId}
use Rattle.plan.specs.declared.domain.DomainId.TheVariants as domain
use Rattle.plan.specs.declared.domain.Edge.{Edge}
use Rattle.model.specs.Places.{sources, source_at, table_of, shard_of}
use Rattle.packet.specs.Readers.{Reader, readers, is_reader}

-- ---- queues, by receiver and then by sender
-- these go last on the edges from sender i to each receiver
abbrev pub pushed : {X : Type 0} → ℕ → List (List X) → List (List (List X)) → List (List (List X))
pushed i [] inboxes = inboxes
pushed i (xs ∷ xss) [] = []
pushed i (xs ∷ xss) (inbox ∷ inboxes) = slice_set inbox i (slice_index_or inbox i [] ++ xs) ∷ pushed i xss inboxes

-- the queue of receiver r from sender i
abbrev pub queue : {X : Type 0} → List (List (List X)) → ℕ → ℕ → List X
queue inboxes r i = slice_index_or (slice_index_or inboxes r []) i []

-- that queue set
abbrev pub with_queue : {X : Type 0} → List (List (List X)) → ℕ → ℕ → List X → List (List (List X))
with_queue inboxes r i xs = slice_set inboxes r (slice_set (slice_index_or inboxes r []) i xs)

-- ---- places
-- the place of shard j of view i among all view shards
abbrev pub reader_place : Layout → ℕ → ℕ → Option ℕ
reader_place p i j = position (is_reader i j) (readers p)

-- which source base shard b is
abbrev pub source_place : Layout → ℕ → Option ℕ
source_place p b = position (λ c. c == b) (sources p)

-- the place, or the first
abbrev pub place_or : Option ℕ → ℕ
place_or None = 0
place_or (Some n) = n

-- an edge, by the places of its ends: a source, a stage shard, a view shard
pub data Wire : Type 0 where
  to_stage_from : (source stage : ℕ) → Wire
  to_view_from : (stage reader : ℕ) → Wire
  to_stage_back : (reader stage : ℕ) → Wire
  to_base_back : (stage source : ℕ) → Wire

-- one for each of n and each of m
abbrev pub pairs : {X : Type 0} → (ℕ → ℕ → X) → ℕ → ℕ → List X
pairs f n m = flat_map (λ x. map (f x) (range_with_len 0 m)) (range_with_len 0 n)

-- all edges, in the order of the plan's
abbrev pub wires : Layout → List Wire
wires p =
    pairs to_stage_from (length (sources p)) p.stages
    ++ pairs to_view_from p.stages (length (readers p))
    ++ pairs to_stage_back (length (readers p)) p.stages
    ++ pairs to_base_back p.stages (length (sources p))

-- base shard b, and a shard of a view, as domains
abbrev pub domain_of_base : Layout → ℕ → DomainId
domain_of_base p b = domain.Base (table_of p b) (shard_of p b)

abbrev pub domain_of_reader : Reader → DomainId
domain_of_reader r = domain.View r.view r.shard

-- the source at a place of a line, and the view shard at a place among the readers
abbrev pub source_domain : Layout → ℕ → DomainId
source_domain p j = domain_of_base p (source_at p j)

abbrev pub reader_domain : Layout → ℕ → DomainId
reader_domain p r = domain_of_reader (slice_index_or (readers p) r (record { view = 0; shard = 0 }))

-- the edge from this domain to that
abbrev pub joins : DomainId → DomainId → Edge
joins a b = record { from = a; to = b }

-- the edge of the plan whose ends stand at these places
abbrev pub edge_of : Layout → Wire → Edge
edge_of p (to_stage_from j s) = joins (source_domain p j) (domain.Stage s)
edge_of p (to_view_from s r) = joins (domain.Stage s) (reader_domain p r)
edge_of p (to_stage_back r s) = joins (reader_domain p r) (domain.Stage s)
edge_of p (to_base_back s j) = joins (domain.Stage s) (source_domain p j)

-- the two domains are one
abbrev pub is_domain : DomainId → DomainId → Bool
is_domain (domain.Base t n) (domain.Base u m) = (t == u) && (n == m)
is_domain (domain.Stage n) (domain.Stage m) = n == m
is_domain (domain.View v n) (domain.View u m) = (v == u) && (n == m)
is_domain d e = false

-- the plan has the domain
abbrev pub is_there : Layout → DomainId → Bool
is_there p d = is_some (position (is_domain d) (domains p))

-- the two edges are one
abbrev pub is_edge : Edge → Edge → Bool
is_edge e f = is_domain e.from f.from && is_domain e.to f.to

-- the edge at a place of the plan's
abbrev pub wire_at : Layout → Option ℕ → Option Wire
wire_at p None = None
wire_at p (Some n) = slice_get (wires p) n

-- the edge of the plan that it is, if it is one
abbrev pub wire_of : Layout → Option Edge → Option Wire
wire_of p None = None
wire_of p (Some e) = wire_at p (position (is_edge e) (edges p))
