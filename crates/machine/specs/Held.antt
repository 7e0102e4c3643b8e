-- All domains and edges in one value, and the world of the protocol that it is.
use Rattle.std.specs.Prelude.{◌≡◌, ◌≢◌, ◌<◌, ℕ, Bool, not, true, false, List, map, length, Some, slice_get, slice_index_or}
use Rattle.row.specs.Bags.{Each}
use Rattle.plan.specs.Layouts.{Layout}
use Rattle.plan.specs.Profile.{IsPlan}
use Rattle.model.specs.Legal.{most_sessions}
use Rattle.model.specs.Fronts.{LogView, Agree}
use Rattle.model.specs.Histories.{Author}
use Rattle.model.specs.Places.{base_count}
use Rattle.packet.specs.Messages.{Ask, BasePacketView, StagePacketView, Sent}
use Rattle.packet.specs.Readers.{readers, view_of}
use Rattle.packet.specs.Truth.{sent_of}
use Rattle.packet.specs.declared.mode.Mode.{Mode}
use Rattle.packet.specs.declared.mode.Mode.TheVariants as mode
use Rattle.protocol.specs.Bases.{Base}
use Rattle.protocol.specs.Edges.{queue}
use Rattle.protocol.specs.Events.{Event, Reply}
use Rattle.protocol.specs.Laws.{IsReached}
use Rattle.protocol.specs.Stages.{Stage}
use Rattle.protocol.specs.Views.{View}
use Rattle.protocol.specs.Worlds.{Node, World}
use Rattle.protocol.specs.WorldSteps.{Did, own_in, step}
use Rattle.base_domain.specs.Received.{base_at}
use Rattle.base_domain.specs.Domains.{Domain as BaseDomain}
use Rattle.schedule.specs.Sessions.{Session}
use Rattle.stage_domain.specs.Domains.{Domain as StageDomain, stage_of}
use Rattle.stage_steps.specs.Shards.{IsFrom}
use Rattle.view_domain.specs.Domains.{Domain as ViewDomain}
use Rattle.view_domain.specs.Domains as view_domain

-- all domains of a plan, the queue of each edge by its receiver and then by its sender, and the sessions
pub record Held (F : Type 0) : Type 0 where
  pub plan : Layout
  pub bases : List (BaseDomain F)
  pub stages : List StageDomain
  pub views : List ViewDomain
  pub to_stage : List (List (List BasePacketView))
  pub to_view : List (List (List StagePacketView))
  pub from_view : List (List (List Ask))
  pub to_base : List (List (List Ask))
  pub sessions : List Session

-- fronts that agree are known to be of one log
abbrev pub AgreeingAreOne : (LogView → LogView → Type 0) → Type 0
AgreeingAreOne are_one = (l m : LogView) → Agree l.entries m.entries → are_one l m

-- a domain goes on
abbrev pub runs : Mode → Bool
runs mode.Running = true
runs mode.Stopped = false
runs mode.Broken = false

abbrev pub stage_node : StageDomain → Node Stage
stage_node d = record { is = stage_of d; runs = runs d.mode }

abbrev pub view_node : ViewDomain → Node View
view_node d = record { is = view_domain.view_of d; runs = runs d.mode }

-- the packets of all queues, as far as keys go
abbrev pub sent_in : List (List (List StagePacketView)) → List (List (List Sent))
sent_in queues = map (map (map sent_of)) queues

-- ---- who is where
-- it is stage shard s
pub record IsStageOf (p : Layout) (s : ℕ) (d : StageDomain) : Type 0 where
  pub plan : d.plan ≡ p
  pub shard : d.shard ≡ s
  pub place : s < p.stages
  pub whole : d.mode ≢ mode.Broken

-- it is view shard r
pub record IsViewOf (p : Layout) (r : ℕ) (d : ViewDomain) : Type 0 where
  pub plan : d.plan ≡ p
  pub reader : slice_get (readers p) r ≡ Some (record { view = d.view; shard = d.shard })
  pub place : d.view < length p.views
  pub whole : d.mode ≢ mode.Broken

-- there are so many, and each is the one of its place
pub record Are {X : Type 0} (Is : ℕ → X → Type 0) (count : ℕ) (xs : List X) : Type 0 where
  pub size : length xs ≡ count
  pub each : (i : ℕ) (x : X) → slice_get xs i ≡ Some x → Is i x

-- the packet is of stage shard s to view shard r
pub record IsSentBy (p : Layout) (r s : ℕ) (x : StagePacketView) : Type 0 where
  pub plan : x.plan ≡ p
  pub stage : x.stage ≡ s
  pub place : s < p.stages
  pub reader : slice_get (readers p) r ≡ Some (record { view = x.view; shard = x.shard })

-- the request is of a key of a view of the plan
abbrev pub IsAsk : Layout → ℕ → ℕ → Ask → Type 0
IsAsk p s r a = view_of a.tag < length p.views

-- the request to a source is of a stage shard of the plan
abbrev pub IsStageAsk : Layout → ℕ → ℕ → Ask → Type 0
IsStageAsk p j s a = s < p.stages

-- so is each message to receiver r of sender i
abbrev pub AreQueued : {X : Type 0} → (ℕ → ℕ → X → Type 0) → List (List (List X)) → Type 0
AreQueued Is queues = (r i : ℕ) → Each (Is r i) (queue queues r i)

-- the session knows where its last entry stands in each log
pub record KnowsOwn (bases : List (Node Base)) (se : ℕ) (s : Session) : Type 0 where
  pub size : length s.own ≡ length bases
  pub each : (b : ℕ) → slice_index_or s.own b 0 ≡ own_in se (slice_get bases b)

module _ {F : Type 0} (log : F → LogView) (authors : F → List Author) where
  abbrev pub base_node : BaseDomain F → Node Base
  base_node d = record { is = base_at log authors d; runs = not d.stopped }

  -- the world of the protocol that it is
  abbrev pub world_of : Held F → World
  world_of h = record {
    plan = h.plan;
    bases = map base_node h.bases;
    stages = map stage_node h.stages;
    views = map view_node h.views;
    to_stage = h.to_stage;
    to_view = sent_in h.to_view;
    from_view = h.from_view;
    to_base = h.to_base;
    callers = map (λ (s : Session). s.is) h.sessions;
  }

  -- it is base shard b, for all sessions
  pub record IsBaseOf (p : Layout) (b : ℕ) (d : BaseDomain F) : Type 0 where
    pub plan : (log d.front).plan ≡ p
    pub base : (log d.front).base ≡ b
    pub sessions : length d.next ≡ most_sessions

  -- each domain is the one of its place, each message is on its edge, and each session knows its own entries
  pub record IsPlaced (h : Held F) : Type 0 where
    pub good : IsPlan h.plan
    pub bases : Are (IsBaseOf h.plan) (base_count h.plan) h.bases
    pub stages : Are (IsStageOf h.plan) h.plan.stages h.stages
    pub views : Are (IsViewOf h.plan) (length (readers h.plan)) h.views
    pub to_stage : AreQueued (λ s j. IsFrom h.plan s j) h.to_stage
    pub to_view : AreQueued (IsSentBy h.plan) h.to_view
    pub from_view : AreQueued (IsAsk h.plan) h.from_view
    pub to_base : AreQueued (IsStageAsk h.plan) h.to_base
    pub sessions : Are (KnowsOwn (map base_node h.bases)) most_sessions h.sessions

  -- all that holds between two steps
  pub record IsWhole (h : Held F) : Type 0 where
    pub reached : IsReached (world_of h)
    pub placed : IsPlaced h

  -- it is this world, and all is in its place
  pub record IsAt (w : World) (new : Held F) : Type 0 where
    pub world : world_of new ≡ w
    pub placed : IsPlaced new

  -- all went as the definition says, and all is in its place
  pub record IsDone (d : Did) (said : Reply) (new : Held F) : Type 0 where
    pub world : world_of new ≡ d.world
    pub reply : said ≡ d.reply
    pub placed : IsPlaced new

  -- the event has gone as the protocol says, and all is in its place
  abbrev pub Happens : Event → Held F → Reply → Held F → Type 0
  Happens e old said new = IsDone (step (world_of old) e) said new
