-- The program's messages as data, and of which logs the fronts of a packet are.
use Rattle.std.specs.Prelude.{◌≡◌, ◌<◌, ℕ, List, Some, slice_get}
use Rattle.row.specs.Cells.{datum_of}
use Rattle.model.specs.Fronts.{LogView}
use Rattle.model.specs.Logs.{Change}
use Rattle.packet.specs.Messages.{StagePacketView}
use Rattle.packet.specs.Truth.{Pointwise, sent_of}
use Rattle.protocol.specs.Views.{ToView, packet, want, order}
use Rattle.view_domain.specs.Domains.{Domain}
use Rattle.view_domain.specs.declared.message.ToView.{ToView as Code}
use Rattle.view_domain.specs.declared.message.ToView.TheVariants as code

-- a message
abbrev pub message_of : {F W R : Type 0} → Code F W R → ToView
message_of (code.Packet stage x) = packet stage (sent_of x)
message_of (code.Want key) = want (datum_of key)
message_of (code.Order key) = order (datum_of key)

-- the front is known to be of one log with this beginning of it
abbrev pub GoesWith : (LogView → LogView → Type 0) → LogView → List Change → Type 0
GoesWith are_one l front = are_one l (record l { entries = front })

-- the packet is from this stage shard of the plan to this shard of the view, and its fronts are of the logs of the line that is held
pub record IsFrom (are_one : LogView → LogView → Type 0) (d : Domain) (s : ℕ) (x : StagePacketView) : Type 0 where
  pub plan : x.plan ≡ d.plan
  pub stage : x.stage ≡ s
  pub place : s < d.plan.stages
  pub view : x.view ≡ d.view
  pub shard : x.shard ≡ d.shard
  pub one : (line : List LogView) → slice_get d.cut s ≡ Some line → Pointwise (GoesWith are_one) line x.to

-- a packet is from there to here; of any other message nothing is asked
abbrev pub Meets : {F W R : Type 0} → (LogView → LogView → Type 0) → Domain → Code F W R → Type 0
Meets are_one d (code.Packet stage x) = IsFrom are_one d stage x
Meets are_one d (code.Want key) = Unit {0}
Meets are_one d (code.Order key) = Unit {0}
