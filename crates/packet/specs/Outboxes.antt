-- What a domain puts out.
use Rattle.std.specs.Prelude.{◌≡◌, ℕ, ◌-◌, ◌<◌, List, [], ◌∷◌, ◌++◌, map, slice_index_or, slice_set, Option, None}
use Rattle.row.specs.Bags.{Each}
use Rattle.packet.specs.Messages.{BasePacketView, none_of}
use Rattle.packet.specs.Answers.{AnswerView}

-- what goes on one edge, in order, and how much more it takes with no memory
pub record EdgeView (P : Type 0) : Type 0 where
  pub packets : List P
  pub room : ℕ

-- an edge with these packets, and room for so many more
abbrev pub edge_with : {P : Type 0} → List P → ℕ → EdgeView P
edge_with packets room = record { packets = packets; room = room }

-- an edge with nothing on it
abbrev pub no_edge : {P : Type 0} → EdgeView P
no_edge = edge_with [] 0

-- the packets of each edge
abbrev pub packets_on : {P : Type 0} → List (EdgeView P) → List (List P)
packets_on edges = map (λ (e : EdgeView _). e.packets) edges

-- each edge takes one more packet with no memory
abbrev pub HaveRoom : {P : Type 0} → List (EdgeView P) → Type 0
HaveRoom edges = Each (λ (e : EdgeView _). 0 < e.room) edges

-- one packet more, behind the others
abbrev pub with_packet : {P : Type 0} → P → EdgeView P → EdgeView P
with_packet x e = record { packets = e.packets ++ x ∷ []; room = e.room - 1 }

-- on edge i
abbrev pub with_packet_on : {P : Type 0} → ℕ → P → List (EdgeView P) → List (EdgeView P)
with_packet_on i x edges = slice_set edges i (with_packet x (slice_index_or edges i no_edge))

-- the packets of each edge, with one more behind those of edge i
abbrev pub with_one : {P : Type 0} → ℕ → P → List (List P) → List (List P)
with_one i x packets = slice_set packets i (slice_index_or packets i [] ++ x ∷ [])

-- of a base domain: the edge to each stage shard, and the reply to a write
pub record OutboxView (F : Type 0) : Type 0 where
  pub edges : List (EdgeView BasePacketView)
  pub reply : Option (AnswerView F)

-- nothing is put out
pub record IsClear {F : Type 0} (out : OutboxView F) : Type 0 where
  pub packets : packets_on out.edges ≡ none_of out.edges
  pub reply : out.reply ≡ None
