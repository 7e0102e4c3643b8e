-- A stage domain: a stage shard, and whether it goes on.
use Rattle.std.specs.Prelude.{◌≡◌, ◌⊎◌, ◌<◌, ℕ, List, [], length, Some, None, slice_get, slice_index_or}
use Rattle.std.specs.Option.{option_map}
use Rattle.row.specs.declared.refused.Refused.{Refused}
use Rattle.row.specs.declared.refused.Refused.TheVariants.{NoMemory, Gap}
use Rattle.plan.specs.Layouts.{Layout}
use Rattle.model.specs.Fronts.{LogView}
use Rattle.packet.specs.Keys.{no_keys}
use Rattle.packet.specs.Lines.{entries_of, no_log}
use Rattle.packet.specs.Marks.{MarksView}
use Rattle.packet.specs.Messages.{Ask, BasePacketView}
use Rattle.packet.specs.Readers.{view_of}
use Rattle.packet.specs.declared.mode.Mode.{Mode}
use Rattle.packet.specs.declared.mode.Mode.TheVariants as mode
use Rattle.protocol.specs.Stages.{Stage, ToStage, packet, request, order, Done}
use Rattle.stage_sides.specs.Held.{Held}
use Rattle.stage_steps.specs.Outboxes.{OutboxView}
use Rattle.stage_steps.specs.Shards.{IsFrom, IsPut, Shard}
use Rattle.stage_steps.specs.Shards as shard

-- what a stage shard holds, and whether it goes on
pub record Domain : Type 0 where
  pub plan : Layout
  pub shard : ℕ
  pub line : List LogView
  pub rows : Held
  pub pending : List Ask
  pub marks : MarksView
  pub mode : Mode

-- its stage shard
abbrev pub shard_in : Domain → Shard
shard_in d = record { plan = d.plan; shard = d.shard; line = d.line; rows = d.rows; pending = d.pending; marks = d.marks }

-- as far as keys go
abbrev pub stage_of : Domain → Stage
stage_of d = shard.stage_of (shard_in d)

-- ---- before the first message
-- stage shard s over the line of these logs, which knows nothing yet: with a right side each stage key is a hole
pub record IsNew (p : Layout) (s : ℕ) (logs : List LogView) (d : Domain) : Type 0 where
  pub line : d.line ≡ logs
  pub stage : stage_of d ≡ record { plan = p; shard = s; line = entries_of logs; right = option_map (λ side. no_keys) p.right; pending = []; asked = None; marks = [] }
  pub running : d.mode ≡ mode.Running

-- ---- messages
-- the log whose beginning the packet ends at
abbrev pub log_of : BasePacketView → LogView
log_of k = record { plan = k.plan; base = k.base; entries = k.to }

-- the message is for it: of a packet the front is of the log whose front is held; of a request the view is one of the plan; of an order nothing is asked
abbrev pub Meets : (LogView → LogView → Type 0) → Domain → ToStage → Type 0
Meets are_one d (packet j k) = IsFrom d.plan d.shard j k × are_one (slice_index_or d.line j no_log) (log_of k)
Meets are_one d (request a) = view_of a.tag < length d.plan.views
Meets are_one d (order x) = Unit {0}

-- a packet starts at the front that is held of its source
abbrev pub IsNext : Domain → ToStage → Type 0
IsNext d (packet j k) = slice_get (entries_of d.line) j ≡ Some k.from
IsNext d (request a) = Unit {0}
IsNext d (order x) = Unit {0}

-- ---- what a message leaves
-- all went as the definition says, and it goes on
pub record IsDone (d : Done) (out : OutboxView) (new : Domain) : Type 0 where
  pub put : IsPut d out (shard_in new)
  pub running : new.mode ≡ mode.Running

-- the same, but that it has stopped
abbrev pub stopped : Domain → Domain
stopped d = record d { mode = mode.Stopped }

-- a packet out of turn, after which all else is as it was; or want of memory at one in turn, after which nothing is said of what it holds
abbrev pub Fails : Domain → ToStage → Refused → Domain → Type 0
Fails old m e new = ((e ≡ Gap) × (IsNext old m → ⊥) × (new ≡ stopped old)) ⊎ ((e ≡ NoMemory) × IsNext old m × (new.mode ≡ mode.Broken))
