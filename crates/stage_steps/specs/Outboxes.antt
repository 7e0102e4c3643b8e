-- What a stage domain puts out.
use Rattle.std.specs.Prelude.{◌≡◌, List, length}
use Rattle.plan.specs.Layouts.{Layout}
use Rattle.model.specs.Places.{sources}
use Rattle.packet.specs.Messages.{Ask, StagePacketView, none_of}
use Rattle.packet.specs.Outboxes.{EdgeView, packets_on}
use Rattle.packet.specs.Readers.{readers}

-- the edge to each view shard, and the edge of requests to each source
pub record OutboxView : Type 0 where
  pub packets : List (EdgeView StagePacketView)
  pub requests : List (EdgeView Ask)

-- nothing is put out
pub record IsSilent (out : OutboxView) : Type 0 where
  pub packets : packets_on out.packets ≡ none_of out.packets
  pub requests : packets_on out.requests ≡ none_of out.requests

-- there is an edge to each view shard of the plan, and to each source
pub record AreEdges (p : Layout) (out : OutboxView) : Type 0 where
  pub readers : length out.packets ≡ length (readers p)
  pub sources : length out.requests ≡ length (sources p)
