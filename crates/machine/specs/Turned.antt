-- What one message makes of one domain and of the queues that it sends to.
use Rattle.std.specs.Prelude.{◌≡◌, ℕ, true, false, List, Option, Some, slice_get, slice_set}
use Rattle.plan.specs.Layouts.{Layout}
use Rattle.model.specs.Fronts.{LogView}
use Rattle.model.specs.Histories.{Author}
use Rattle.model.specs.Legal.{most_sessions}
use Rattle.packet.specs.Messages.{Ask, BasePacketView, StagePacketView}
use Rattle.packet.specs.declared.mode.Mode.TheVariants as mode
use Rattle.protocol.specs.Bases as base
use Rattle.protocol.specs.BaseSteps as on_base
use Rattle.protocol.specs.Stages as stage
use Rattle.protocol.specs.StageSteps as on_stage
use Rattle.protocol.specs.Views as view
use Rattle.protocol.specs.Edges.{pushed, source_place}
use Rattle.protocol.specs.WorldSteps.{base_sent}
use Rattle.base_domain.specs.Domains.{Domain as BaseDomain}
use Rattle.base_domain.specs.Received.{IsFor, base_at}
use Rattle.stage_domain.specs.Domains.{Domain as StageDomain, stage_of}
use Rattle.stage_steps.specs.Shards.{IsFrom}
use Rattle.view_domain.specs.Domains.{Domain as ViewDomain}
use Rattle.machine.specs.Held.{Held, IsBaseOf, IsStageOf, IsViewOf, AreQueued, IsSentBy, IsAsk, IsStageAsk, sent_in, base_node, stage_node, view_node}

-- stage shard s of the plan has done this, and goes on
pub record IsStageTurn (p : Layout) (s : ℕ) (d : stage.Done) (old : List (List (List StagePacketView))) (asked : List (List (List Ask))) (new : StageDomain) (queues : List (List (List StagePacketView))) (asks : List (List (List Ask))) : Type 0 where
  pub node : stage_node new ≡ record { is = d.stage; runs = true }
  pub is : IsStageOf p s new
  pub sent : sent_in queues ≡ pushed s d.sent (sent_in old)
  pub queued : AreQueued (IsSentBy p) old → AreQueued (IsSentBy p) queues
  pub requests : asks ≡ pushed s d.requests asked
  pub asking : AreQueued (IsStageAsk p) asked → AreQueued (IsStageAsk p) asks

-- stage shard s has had this message, and nothing else has changed
pub record IsGiven {F : Type 0} (s : ℕ) (m : stage.ToStage) (old new : Held F) : Type 0 where
  pub domain : StageDomain
  pub later : StageDomain
  pub queues : List (List (List StagePacketView))
  pub asks : List (List (List Ask))
  pub there : slice_get old.stages s ≡ Some domain
  pub running : domain.mode ≡ mode.Running
  pub turn : IsStageTurn domain.plan s (on_stage.step (stage_of domain) m) old.to_view old.to_base later queues asks
  pub is : new ≡ record old { stages = slice_set old.stages s later; to_view = queues; to_base = asks }

-- view shard r has done this, and goes on
pub record IsViewTurn (p : Layout) (r : ℕ) (d : view.Done) (old : List (List (List Ask))) (new : ViewDomain) (queues : List (List (List Ask))) : Type 0 where
  pub node : view_node new ≡ record { is = d.view; runs = true }
  pub is : IsViewOf p r new
  pub sent : queues ≡ pushed r d.requests old
  pub queued : AreQueued (IsAsk p) old → AreQueued (IsAsk p) queues

module _ {F : Type 0} (log : F → LogView) (authors : F → List Author) where
  -- base shard b of the plan has done this, and goes on
  pub record IsBaseTurn (p : Layout) (b : ℕ) (d : base.Done) (old : List (List (List BasePacketView))) (new : BaseDomain F) (queues : List (List (List BasePacketView))) : Type 0 where
    pub node : base_node log authors new ≡ record { is = d.base; runs = true }
    pub is : IsBaseOf log authors p b new
    pub sent : queues ≡ base_sent (source_place p b) d.sent old
    pub queued : AreQueued (IsFrom p) old → AreQueued (IsFrom p) queues

  -- the message is one for base shard b
  abbrev pub IsForBase : ℕ → base.ToBase → Held F → Type 0
  IsForBase b m h = (d : BaseDomain F) → slice_get h.bases b ≡ Some d → IsFor (log d.front) most_sessions m

  -- base shard b has had this message and has answered so, and nothing else has changed
  pub record IsBaseGiven (b : ℕ) (m : base.ToBase) (v : Option base.Verdict) (old new : Held F) : Type 0 where
    pub domain : BaseDomain F
    pub later : BaseDomain F
    pub queues : List (List (List BasePacketView))
    pub there : slice_get old.bases b ≡ Some domain
    pub running : domain.stopped ≡ false
    pub turn : IsBaseTurn (log domain.front).plan (log domain.front).base (on_base.step (base_at log authors domain) m) old.to_stage later queues
    pub reply : v ≡ (on_base.step (base_at log authors domain) m).reply
    pub is : new ≡ record old { bases = slice_set old.bases b later; to_stage = queues }
