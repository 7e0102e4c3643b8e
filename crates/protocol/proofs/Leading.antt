-- How packets follow one another.
use Rattle.std.proofs.Common.{◌≡◌, List, [], ◌∷◌}
use mathlib.Core.List.{IsPrefix}
use Rattle.model.specs.Logs.{Change}
use Rattle.model.specs.Queries.{Line}
use Rattle.packet.specs.Messages.{BasePacketView, Sent}
use Rattle.packet.specs.Truth.{Grows, Given}

module _ {F P : Type 0} (from to : P → F) (IsStep : P → Type 0) where
  -- each is a step from where the one before ended, and they lead from the one place to the other
  abbrev pub Leads : F → List P → F → Type 0
  Leads f [] g = f ≡ g
  Leads f (x ∷ xs) g = (from x ≡ f) × IsStep x × Leads (to x) xs g

-- the line of a packet of a stage shard only grows
abbrev pub IsStep : Sent → Type 0
IsStep x = Grows x.from x.to

-- packets of a stage shard lead from line to line
abbrev pub IsRun : Line → List Sent → Line → Type 0
IsRun = Leads (λ (x : Sent). x.from) (λ (x : Sent). x.to) IsStep

-- the front of a packet of a base shard only grows, and stays where the packet has a piece or a marker
pub record IsBaseStep (x : BasePacketView) : Type 0 where
  pub grows : IsPrefix x.from x.to
  pub piece : Given x.piece (x.from ≡ x.to)
  pub marker : Given x.marker (x.from ≡ x.to)

-- packets of a base shard lead from front to front
abbrev pub IsBaseRun : List Change → List BasePacketView → List Change → Type 0
IsBaseRun = Leads (λ (x : BasePacketView). x.from) (λ (x : BasePacketView). x.to) IsBaseStep
