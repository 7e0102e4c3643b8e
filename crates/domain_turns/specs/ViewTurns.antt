-- What becomes of one message to a view shard.
use Rattle.std.specs.Prelude.{◌≡◌, ◌≢◌, ◌⊎◌, ◌<◌, ℕ, None}
use Rattle.row.specs.Cells.{datum_of}
use Rattle.row.specs.declared.refused.Refused.{Refused}
use Rattle.row.specs.declared.refused.Refused.TheVariants.{NoMemory, Gap}
use Rattle.row.specs.declared.value.Value.{Value}
use Rattle.model.specs.Fronts.{LogView}
use Rattle.packet.specs.Codes.{marks_in}
use Rattle.packet.specs.Messages.{StagePacketView}
use Rattle.packet.specs.Outboxes.{packets_on}
use Rattle.packet.specs.declared.mode.Mode.TheVariants.{Running}
use Rattle.protocol.specs.Views.{ToView}
use Rattle.protocol.specs.ViewSteps.{step}
use Rattle.protocol.specs.WorldSteps.{lengths_of}
use Rattle.shown.specs.Snapshots.{Snapshot, shown_at}
use Rattle.view_domain.specs.Codes.{message_of}
use Rattle.view_domain.specs.Domains.{Domain, lines_of, stopped, view_of}
use Rattle.view_domain.specs.Outboxes.{OutboxView}
use Rattle.view_domain.specs.Received.{IsNext}
use Rattle.view_domain.specs.Shown.{rows_at}
use Rattle.view_domain.specs.declared.message.ToView.{ToView as Code}
use Rattle.view_domain.specs.declared.message.ToView.TheVariants as code

-- two fronts are of one log
abbrev pub are_one : LogView → LogView → Type 0
are_one a b = (a.plan ≡ b.plan) × (a.base ≡ b.base)

-- the copy shows what the domain holds: the filled keys with their rows, its cut, and how many requests it has sent
pub record Shows (d : Domain) (s : Snapshot) : Type 0 where
  pub view : s.view ≡ d.view
  pub shard : s.shard ≡ d.shard
  pub lengths : s.lengths ≡ lengths_of (lines_of d.cut)
  pub cut : s.cut ≡ lines_of d.cut
  pub rows : (k : Value) → shown_at s.rows (datum_of k) ≡ rows_at d.kept k
  pub asked : s.asked ≡ d.asked

-- the message was in turn, the domain did the protocol's step, and what that puts out is in the outbox, but for what was told of shown keys
pub record IsTaken (m : ToView) (old : Domain) (out : OutboxView) (new : Domain) : Type 0 where
  pub next : IsNext old m
  pub view : view_of new ≡ (step (view_of old) m).view
  pub requests : packets_on out.requests ≡ (step (view_of old) m).requests
  pub acks : marks_in out.ack ≡ (step (view_of old) m).acks
  pub told : out.shown ≡ None
  pub running : new.mode ≡ Running

-- the packet is to the view shard, from this stage shard of the plan
pub record IsOwn (d : Domain) (s : ℕ) (x : StagePacketView) : Type 0 where
  pub plan : x.plan ≡ d.plan
  pub stage : x.stage ≡ s
  pub place : s < d.plan.stages
  pub view : x.view ≡ d.view
  pub shard : x.shard ≡ d.shard

-- the message is for the view shard: a packet is, from the stage shard on whose edge it came; of a key nothing is asked
abbrev pub IsFor : {F W R : Type 0} → Domain → Code F W R → Type 0
IsFor d (code.Packet stage x) = IsOwn d stage x
IsFor d (code.Want key) = Unit {0}
IsFor d (code.Order key) = Unit {0}

-- it is for the view shard, and in turn
pub record IsDue {F W R : Type 0} (d : Domain) (m : Code F W R) : Type 0 where
  pub own : IsFor d m
  pub next : IsNext d (message_of m)

-- a message that was not due, and all else is as it was; or want of memory. It does not run
abbrev pub IsRefused : {F W R : Type 0} → Code F W R → Domain → Refused → Domain → Type 0
IsRefused m old e new = ((e ≡ Gap) × (IsDue old m → ⊥) × (new ≡ stopped old)) ⊎ ((e ≡ NoMemory) × IsDue old m × (new.mode ≢ Running))

-- the message was for the view shard, and was taken so
pub record Went {F W R : Type 0} (m : Code F W R) (old new : Domain) : Type 0 where
  pub own : IsFor old m
  pub out : OutboxView
  pub taken : IsTaken (message_of m) old out new
