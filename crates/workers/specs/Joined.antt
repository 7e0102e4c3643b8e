-- Messages with packets joined to them: a packet ends elsewhere and carries other changes, and any other message stays.
use Rattle.std.specs.Prelude.{◌≡◌, ℕ, List, [], Some, drop, slice_get, slice_index_or, slice_set}
use Rattle.row.specs.declared.record.Record.{Record}
use Rattle.model.specs.Logs.{Change}
use Rattle.model.specs.Queries.{Line}
use Rattle.packet.specs.Messages.{BasePacketView, KeyedRecord, StagePacketView}
use Rattle.links.specs.Turns.{TurnsView}
use Rattle.stage_steps.specs.declared.message.ToStage.{ToStage}
use Rattle.stage_steps.specs.declared.message.ToStage.TheVariants as stage
use Rattle.routes.specs.declared.mail.ViewMail.{ViewMail}
use Rattle.routes.specs.declared.mail.ViewMail.TheVariants as view

-- of a stage shard
abbrev pub IsJoinedStage : {F W R : Type 0} → ToStage F W R → ToStage F W R → Type 0
IsJoinedStage (stage.Packet source x) m = (to : List Change) × (changes : List Record) × (m ≡ stage.Packet source (record x { to = to; changes = changes }))
IsJoinedStage (stage.Request ask) m = m ≡ stage.Request ask
IsJoinedStage (stage.Order key) m = m ≡ stage.Order key

-- of a view shard
abbrev pub IsJoinedView : {J : Type 0} → ViewMail J → ViewMail J → Type 0
IsJoinedView (view.Packet s x) m = (to : Line) × (changes : List KeyedRecord) × (m ≡ view.Packet s (record x { to = to; changes = changes }))
IsJoinedView (view.Want want) m = m ≡ view.Want want
IsJoinedView (view.Order key) m = m ≡ view.Order key

-- the message is the first of those behind the one that was begun last, and is taken off
pub record IsTakenOff {T : Type 0} (old : TurnsView T) (m : T) (new : TurnsView T) : Type 0 where
  pub first : slice_get (slice_index_or old.waiting old.begun []) 0 ≡ Some m
  pub rest : new ≡ record old { waiting = slice_set old.waiting old.begun (drop 1 (slice_index_or old.waiting old.begun [])) }

-- it is this packet
abbrev pub TakesBase : {F W R : Type 0} → TurnsView (ToStage F W R) → BasePacketView → TurnsView (ToStage F W R) → Type 0
TakesBase old x new = (source : ℕ) × IsTakenOff old (stage.Packet source x) new

abbrev pub TakesStage : {J : Type 0} → TurnsView (ViewMail J) → StagePacketView → TurnsView (ViewMail J) → Type 0
TakesStage old x new = (s : ℕ) × IsTakenOff old (view.Packet s x) new
