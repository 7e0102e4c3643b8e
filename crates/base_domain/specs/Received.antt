-- What a base domain makes of a message.
use Rattle.std.specs.Prelude.{◌≡◌, ◌⊎◌, ◌<◌, ℕ, true, false, List, length, Option, Some, None}
use Rattle.std.specs.Option.{option_map, ForSome}
use Rattle.row.specs.Cells.{shard}
use Rattle.row.specs.declared.refused.Refused.{Refused}
use Rattle.row.specs.declared.refused.Refused.TheVariants.{NoMemory, Stopped}
use Rattle.model.specs.Logs.{Change, fits, key_of}
use Rattle.model.specs.Places.{layout_of, shard_of}
use Rattle.model.specs.Histories.{Author}
use Rattle.model.specs.Legal.{limit}
use Rattle.model.specs.Refusals.{refusal}
use Rattle.model.specs.Fronts.{LogView, IsLonger}
use Rattle.packet.specs.Messages.{none_of}
use Rattle.packet.specs.Answers.{AnswerView}
use Rattle.packet.specs.Outboxes.{IsClear, OutboxView, packets_on}
use Rattle.protocol.specs.Bases.{last_number, Base, ToBase, write, request, marker, Verdict, accepted, declined, Done}
use Rattle.base_domain.specs.Codes.{base_of}
use Rattle.base_domain.specs.Domains.{Domain}

-- the message is for the base shard: of a write the session is one of so many, and the entry fits the table and has the shard; of a request the stage shard is one of the plan
abbrev pub IsFor : LogView → ℕ → ToBase → Type 0
IsFor l sessions (write s m e) =
    (s < sessions) × (m < last_number) × (fits (layout_of l.plan l.base) e ≡ true) × (shard_of l.plan l.base ≡ shard (key_of (layout_of l.plan l.base).key e) (layout_of l.plan l.base).shards)
IsFor l sessions (request s a) = s < l.plan.stages
IsFor l sessions (marker m) = Unit {0}

-- it is a write
abbrev pub IsWrite : ToBase → Type 0
IsWrite (write s m e) = Unit {0}
IsWrite (request s a) = ⊥
IsWrite (marker m) = ⊥

-- what the log refuses the entry with
abbrev pub refusal_at : LogView → Change → Option Refused
refusal_at l e = refusal (layout_of l.plan l.base).key limit l.entries e

-- accepted at the index, where it is not refused
abbrev pub verdict_in : Option Refused → ℕ → Verdict
verdict_in None i = accepted i
verdict_in (Some r) i = declined r

-- the verdict of a reply
abbrev pub verdict_of : {F : Type 0} → Option (AnswerView F) → Option Verdict
verdict_of reply = option_map (λ (a : AnswerView _). verdict_in a.refused a.index) reply

-- the verdict on a write; nothing else has one
abbrev pub on_write : ToBase → Verdict → Option Verdict
on_write (write s m e) v = Some v
on_write (request s a) v = None
on_write (marker m) v = None

-- the reply is to this message
abbrev pub IsTo : {F : Type 0} → ToBase → AnswerView F → Type 0
IsTo m a = m ≡ write a.session a.number a.entry

-- no packet goes on any edge, and a write is answered with this refusal
pub record IsAnswered {F : Type 0} (m : ToBase) (r : Refused) (out : OutboxView F) : Type 0 where
  pub silent : packets_on out.edges ≡ none_of out.edges
  pub reply : verdict_of out.reply ≡ on_write m (declined r)
  pub to : ForSome out.reply (IsTo m)

-- a write was refused for memory, and nothing changed
pub record IsRefused {F : Type 0} (m : ToBase) (old : Domain F) (out : OutboxView F) (new : Domain F) : Type 0 where
  pub same : new ≡ old
  pub answer : IsAnswered m NoMemory out
  pub reply : verdict_of out.reply ≡ Some (declined NoMemory)

-- it runs, and the outbox is clear and has an edge to each stage shard
pub record IsReady {F : Type 0} (log : F → LogView) (d : Domain F) (out : OutboxView F) : Type 0 where
  pub clear : IsClear out
  pub edges : length out.edges ≡ (log d.front).plan.stages
  pub running : d.stopped ≡ false

-- it is still that of its base shard and plan, for as many sessions
pub record Stays {F : Type 0} (log : F → LogView) (old new : Domain F) : Type 0 where
  pub plan : (log new.front).plan ≡ (log old.front).plan
  pub base : (log new.front).base ≡ (log old.front).base
  pub sessions : length new.next ≡ length old.next

module _ {F : Type 0} (log : F → LogView) (authors : F → List Author) where
  -- the base shard that its front tells of
  abbrev pub base_at : Domain F → Base
  base_at d = base_of (log d.front) (authors d.front)

  -- the reply shows the domain's front
  pub record Shows (d : Domain F) (a : AnswerView F) : Type 0 where
    pub front : F
    pub shown : a.front ≡ Some front
    pub says : log front ≡ log d.front
    pub wrote : authors front ≡ authors d.front

  -- all went as the definition says, and it goes on
  pub record IsDone (m : ToBase) (old : Domain F) (d : Done) (out : OutboxView F) (new : Domain F) : Type 0 where
    pub base : base_at new ≡ d.base
    pub reply : verdict_of out.reply ≡ d.reply
    pub sent : packets_on out.edges ≡ d.sent
    pub to : ForSome out.reply (IsTo m)
    pub shown : ForSome out.reply (Shows new)
    pub sessions : length new.next ≡ length old.next
    pub running : new.stopped ≡ false

  -- memory was refused for a packet: the log and the reply are as the definition says, no packet goes on any edge, and it has stopped
  pub record IsCutShort (m : ToBase) (old : Domain F) (d : Done) (out : OutboxView F) (new : Domain F) : Type 0 where
    pub base : base_at new ≡ d.base
    pub reply : verdict_of out.reply ≡ d.reply
    pub silent : packets_on out.edges ≡ none_of out.edges
    pub to : ForSome out.reply (IsTo m)
    pub sessions : length new.next ≡ length old.next
    pub stopped : new.stopped ≡ true

  -- its log was seen to go on without it, as the reply shows, and it has stopped; all else is as it was
  pub record HasMoved (old : Domain F) (out : OutboxView F) (new : Domain F) : Type 0 where
    pub same : new ≡ record old { stopped = true }
    pub answer : AnswerView F
    pub reply : out.reply ≡ Some answer
    pub front : F
    pub shown : answer.front ≡ Some front
    pub longer : IsLonger (log old.front) (log front)

  -- what Ok leaves
  abbrev pub Goes : ToBase → Domain F → Done → OutboxView F → Domain F → Type 0
  Goes m old d out new = IsDone m old d out new ⊎ IsRefused m old out new

  -- what this refusal leaves
  abbrev pub Fails : ToBase → Domain F → Done → Refused → OutboxView F → Domain F → Type 0
  Fails m old d e out new = ((e ≡ Stopped) × HasMoved old out new × IsAnswered m Stopped out) ⊎ ((e ≡ NoMemory) × IsCutShort m old d out new)
