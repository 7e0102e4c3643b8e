-- What becomes of one message to a stage shard.
use Rattle.std.specs.Prelude.{◌≡◌, ◌≢◌, ◌⊎◌, ◌<◌, length}
use Rattle.row.specs.declared.refused.Refused.{Refused}
use Rattle.row.specs.declared.refused.Refused.TheVariants.{NoMemory, Gap}
use Rattle.packet.specs.Readers.{view_of}
use Rattle.packet.specs.declared.mode.Mode.TheVariants.{Running}
use Rattle.protocol.specs.Stages.{ToStage, packet, request, order}
use Rattle.protocol.specs.StageSteps.{step}
use Rattle.stage_domain.specs.Domains.{Domain, IsDone, IsNext, stage_of, stopped}
use Rattle.stage_steps.specs.Shards.{IsFrom}
use Rattle.stage_steps.specs.Outboxes.{OutboxView}

-- the message is for the stage shard: a packet is to it, from the base shard that is the source on whose edge it came; the view of a request is one of the plan; of an order nothing is asked
abbrev pub IsFor : Domain → ToStage → Type 0
IsFor d (packet j k) = IsFrom d.plan d.shard j k
IsFor d (request a) = view_of a.tag < length d.plan.views
IsFor d (order x) = Unit {0}

-- it is for the stage shard, and in turn
pub record IsDue (d : Domain) (m : ToStage) : Type 0 where
  pub own : IsFor d m
  pub next : IsNext d m

-- the message was due, the domain did the protocol's step, and what that puts out is on the edges
pub record IsTaken (m : ToStage) (old : Domain) (out : OutboxView) (new : Domain) : Type 0 where
  pub due : IsDue old m
  pub done : IsDone (step (stage_of old) m) out new

-- a message that was not due, and all else is as it was; or want of memory. It does not run
abbrev pub IsUntaken : ToStage → Domain → Refused → Domain → Type 0
IsUntaken m old e new = ((e ≡ Gap) × (IsDue old m → ⊥) × (new ≡ stopped old)) ⊎ ((e ≡ NoMemory) × IsDue old m × (new.mode ≢ Running))

-- the message was taken so
pub record Went (m : ToStage) (old new : Domain) : Type 0 where
  pub out : OutboxView
  pub taken : IsTaken m old out new
