-- The domains of a plan, its tags, and the edges between domains in their order.
use Rattle.std.specs.Prelude.{◌≡◌, ◌↔◌, Contains, ℕ, List, [], ◌∷◌, ◌++◌, map, flat_map, length, Option, Some, None, cond, codes}
use Rattle.std.specs.Fmt.{decimal}
use Rattle.std.specs.List.{range_with_len}
use Rattle.std.specs.Str.{bytes_eq}
use Rattle.plan.specs.Layouts.{SideLayout, Layout, table_at, view_at}
use Rattle.plan.specs.declared.domain.DomainId.{DomainId}
use Rattle.plan.specs.declared.domain.DomainId.TheVariants as domain
use Rattle.plan.specs.declared.domain.Edge.{Edge}

-- so many shards of the table, or of the view, at a place
abbrev pub bases : ℕ → ℕ → List DomainId
bases t shards = map (λ n. domain.Base t n) (range_with_len 0 shards)

abbrev pub views : ℕ → ℕ → List DomainId
views i shards = map (λ n. domain.View i n) (range_with_len 0 shards)

-- the shards of the side's table
abbrev pub bases_of : Layout → SideLayout → List DomainId
bases_of p s = bases s.table (table_at p s.table).shards

-- those of the right side's table, if there is one
abbrev pub right_bases : Layout → Option SideLayout → List DomainId
right_bases p None = []
right_bases p (Some s) = bases_of p s

-- the sources of the stage: the shards of the left table, then those of the right one
abbrev pub sources : Layout → List DomainId
sources p = bases_of p p.left ++ right_bases p p.right

-- the shards of the stage
abbrev pub stage_shards : Layout → List DomainId
stage_shards p = map (λ n. domain.Stage n) (range_with_len 0 p.stages)

-- the shards of the view at the place
abbrev pub shards_of_view : Layout → ℕ → List DomainId
shards_of_view p i = views i (view_at p i).shards

-- the shards of the views, view by view
abbrev pub view_shards : Layout → List DomainId
view_shards p = flat_map (shards_of_view p) (range_with_len 0 (length p.views))

-- an edge from each of these to each of those
abbrev pub edges_from : DomainId → List DomainId → List Edge
edges_from x ys = map (λ y. record { from = x; to = y }) ys

abbrev pub pairs : List DomainId → List DomainId → List Edge
pairs xs ys = flat_map (λ x. edges_from x ys) xs

-- changes flow from sources to stage shards and from those to view shards, requests the other way
abbrev pub edges : Layout → List Edge
edges p =
    pairs (sources p) (stage_shards p)
    ++ pairs (stage_shards p) (view_shards p)
    ++ pairs (view_shards p) (stage_shards p)
    ++ pairs (stage_shards p) (sources p)

-- tag 0 fills the right side, if there is one; tag 1+i fills view i
abbrev pub right_tags : Option SideLayout → List ℕ
right_tags None = []
right_tags (Some s) = 0 ∷ []

abbrev pub tags : Layout → List ℕ
tags p = right_tags p.right ++ range_with_len 1 (length p.views)

-- ---- texts: the name of the table or view, or `stage`, then the shard
abbrev pub numbered : List ℕ → ℕ → List ℕ
numbered name n = name ++ (codes "." ++ decimal n)

abbrev pub domain_text : Layout → DomainId → List ℕ
domain_text p (domain.Base t n) = numbered (table_at p t).name n
domain_text p (domain.Stage n) = numbered (codes "stage") n
domain_text p (domain.View v n) = numbered (view_at p v).name n

abbrev pub edge_text : Layout → Edge → List ℕ
edge_text p e = domain_text p e.from ++ (codes ">" ++ domain_text p e.to)

-- the shards of all tables, in the stage or not
abbrev pub shards_of_table : Layout → ℕ → List DomainId
shards_of_table p t = bases t (table_at p t).shards

abbrev pub base_shards : Layout → List DomainId
base_shards p = flat_map (shards_of_table p) (range_with_len 0 (length p.tables))

-- all domains: the shards of the tables, of the stage, and of the views
abbrev pub domains : Layout → List DomainId
domains p = base_shards p ++ stage_shards p ++ view_shards p

-- the first of them that has the text
abbrev pub first_with : {X : Type 0} → (X → List ℕ) → List ℕ → List X → Option X
first_with of text [] = None
first_with of text (x ∷ xs) = cond (bytes_eq (of x) text) (Some x) (first_with of text xs)

abbrev pub domain_named : Layout → List ℕ → Option DomainId
domain_named p text = first_with (domain_text p) text (domains p)

abbrev pub edge_named : Layout → List ℕ → Option Edge
edge_named p text = first_with (edge_text p) text (edges p)

-- it is one of the plan's domains, or edges, with the text, and each of them is found by its text
abbrev pub IsDomainWith : Layout → List ℕ → Option DomainId → Type 0
IsDomainWith p text d = (x : DomainId) → (d ≡ Some x) ↔ (Contains (domains p) x × (domain_text p x ≡ text))

abbrev pub IsEdgeWith : Layout → List ℕ → Option Edge → Type 0
IsEdgeWith p text e = (x : Edge) → (e ≡ Some x) ↔ (Contains (edges p) x × (edge_text p x ≡ text))
