-- Packets of one sender, one behind the other, that are joined.
use Rattle.std.specs.Prelude.{◌≡◌, ◌⊎◌, ℕ, min, List, [], ◌∷◌, ◌++◌, None}
use Rattle.packet.specs.Messages.{BasePacketView, StagePacketView}

-- the packet carries neither a piece nor a marker
pub record IsUpdateBase (x : BasePacketView) : Type 0 where
  pub piece : x.piece ≡ None
  pub marker : x.marker ≡ None

-- the second packet goes on where the first one ends, and neither carries a piece or a marker
pub record GoesOnBase (x y : BasePacketView) : Type 0 where
  pub plan : y.plan ≡ x.plan
  pub base : y.base ≡ x.base
  pub stage : y.stage ≡ x.stage
  pub from : y.from ≡ x.to
  pub first : IsUpdateBase x
  pub next : IsUpdateBase y

-- the two as one
abbrev pub joined_base : BasePacketView → BasePacketView → BasePacketView
joined_base x y = record x { to = y.to; changes = x.changes ++ y.changes }

-- neither packet carries a piece or a marker, the second one evicts nothing, and it changes nothing where the first one evicts
pub record AreOne (x y : StagePacketView) : Type 0 where
  pub piece : x.piece ≡ None
  pub marker : x.marker ≡ None
  pub next_piece : y.piece ≡ None
  pub next_marker : y.marker ≡ None
  pub evicts : y.evicts ≡ []
  pub apart : (x.evicts ≡ []) ⊎ (y.changes ≡ [])

-- the second packet goes on where the first one ends, and they can be one
pub record GoesOnStage (x y : StagePacketView) : Type 0 where
  pub plan : y.plan ≡ x.plan
  pub stage : y.stage ≡ x.stage
  pub view : y.view ≡ x.view
  pub shard : y.shard ≡ x.shard
  pub from : y.from ≡ x.to
  pub one : AreOne x y

-- the two as one
abbrev pub joined_stage : StagePacketView → StagePacketView → StagePacketView
joined_stage x y = record x { to = y.to; changes = x.changes ++ y.changes }

-- each number at most the one of the same place, where there is one
abbrev pub at_most : List ℕ → List ℕ → List ℕ
at_most [] limits = []
at_most (n ∷ ns) [] = n ∷ ns
at_most (n ∷ ns) (m ∷ ms) = min n m ∷ at_most ns ms
