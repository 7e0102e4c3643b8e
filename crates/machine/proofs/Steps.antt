-- What one turn of a stage shard makes of the world that all domains and queues are.
use Rattle.std.proofs.Common.{true, false, cond, ◌≡◌, ℕ, ◌==◌, List, [], ◌∷◌, map, length, Option, Some, None, ◌⊎◌, inl, inr, slice_get, slice_set, refl, ap, sym, ◌∙◌, subst}
use Rattle.model.specs.Fronts.{LogView}
use Rattle.model.specs.Histories.{Author}
use Rattle.packet.specs.Messages.{Ask, BasePacketView, StagePacketView, Sent}
use Rattle.protocol.specs.Edges.{pushed, queue, with_queue}
use Rattle.protocol.specs.Stages.{Stage, ToStage, Done}
use Rattle.protocol.specs.StageSteps.{step}
use Rattle.protocol.specs.Worlds.{Node, World}
use Rattle.protocol.specs.WorldSteps.{Did, says, stage_did, stage_takes, is_up}
use Rattle.protocol.specs.Events.{Reply, delivered, idle}
use Rattle.protocol.proofs.Lists.{map_set, map_get, set_size, got}
use Rattle.stage_domain.specs.Domains.{Domain as StageDomain, stage_of}
use Rattle.stage_steps.specs.Shards.{IsFrom}
use Rattle.base_domain.specs.Domains.{Domain as BaseDomain}
use Rattle.model.specs.Legal.{most_sessions}
use Rattle.model.specs.Places.{base_count}
use Rattle.packet.specs.Readers.{readers}
use Rattle.schedule.specs.Sessions.{Session}
use Rattle.view_domain.specs.Domains.{Domain as ViewDomain}
use Rattle.machine.specs.Held.{Held, Are, AreQueued, IsPlaced, IsAt, IsDone, IsBaseOf, IsStageOf, IsViewOf, IsSentBy, IsAsk, IsStageAsk, KnowsOwn, base_node, world_of, stage_node, sent_in, runs}
use Rattle.machine.specs.Turned.{IsStageTurn, IsGiven}
use Rattle.schedule.specs.Taken.{IsTaken}
use Rattle.machine.proofs.Queued.{still_queued}

-- ---- one of them changes
pub set_are : {X : Type 0} (Is : ℕ → X → Type 0) (n : ℕ) (xs : List X) (i : ℕ) (x : X) → Are Is n xs → Is i x → Are Is n (slice_set xs i x)
set_are {X = X} Is n xs i x a h = record {
  size = set_size xs i x ∙ a.size;
  each = λ j y at. by j y (got xs i x j y at);
}
  where
    by : (j : ℕ) (y : X) → ((j ≡ i) × (y ≡ x)) ⊎ (((i == j) ≡ false) × (slice_get xs j ≡ Some y)) → Is j y
    by j y (inl r) = subst (λ k. Is k y) (sym r.0) (subst (Is i) (sym r.1) h)
    by j y (inr r) = a.each j y r.1

-- ---- a domain that is asked takes the message, or loses it
pub stage_up : (w : World) (s : ℕ) (n : Node Stage) (m : ToStage) → slice_get w.stages s ≡ Some n → n.runs ≡ true → stage_takes w s (slice_get w.stages s) m ≡ stage_did w s (step n.is m)
stage_up w s n m at runs = ap (λ o. stage_takes w s o m) at ∙ ap (λ b. cond b (stage_did w s (step n.is m)) w) runs

pub stage_down : (w : World) (s : ℕ) (o : Option (Node Stage)) (m : ToStage) → is_up o ≡ false → stage_takes w s o m ≡ w
stage_down w s None m e = refl
stage_down w s (Some n) m e = ap (λ b. cond b (stage_did w s (step n.is m)) w) e

module _ {F : Type 0} (log : F → LogView) (authors : F → List Author) where
  -- the stage shards, view shards, queues and sessions are others, each at its place
  pub remade : (h : Held F) → IsPlaced log authors h → (stages : List StageDomain) → Are (IsStageOf h.plan) h.plan.stages stages → (views : List ViewDomain) → Are (IsViewOf h.plan) (length (readers h.plan)) views
      → (to_stage : List (List (List BasePacketView))) → AreQueued (λ s j. IsFrom h.plan s j) to_stage → (to_view : List (List (List StagePacketView))) → AreQueued (IsSentBy h.plan) to_view → (from_view : List (List (List Ask))) → AreQueued (IsAsk h.plan) from_view
      → (sessions : List Session) → Are (KnowsOwn (map (base_node log authors) h.bases)) most_sessions sessions
      → IsPlaced log authors (record h { stages = stages; views = views; to_stage = to_stage; to_view = to_view; from_view = from_view; sessions = sessions })
  remade h p stages a views b to_stage c to_view d from_view e sessions f =
      record { good = p.good; bases = p.bases; stages = a; views = b; to_stage = c; to_view = d; from_view = e; to_base = p.to_base; sessions = f }

  -- the base shards, what they send and the sessions are others
  pub rebased : (h : Held F) → IsPlaced log authors h → (bases : List (BaseDomain F)) → Are (IsBaseOf log authors h.plan) (base_count h.plan) bases → (to_stage : List (List (List BasePacketView))) → AreQueued (λ s j. IsFrom h.plan s j) to_stage
      → (sessions : List Session) → Are (KnowsOwn (map (base_node log authors) bases)) most_sessions sessions → IsPlaced log authors (record h { bases = bases; to_stage = to_stage; sessions = sessions })
  rebased h p bases a to_stage b sessions c =
      record { good = p.good; bases = a; stages = p.stages; views = p.views; to_stage = b; to_view = p.to_view; from_view = p.from_view; to_base = p.to_base; sessions = c }

  -- so are the requests to sources
  pub reasked : (h : Held F) → IsPlaced log authors h → (to_base : List (List (List Ask))) → AreQueued (IsStageAsk h.plan) to_base → IsPlaced log authors (record h { to_base = to_base })
  reasked h p to_base a =
      record { good = p.good; bases = p.bases; stages = p.stages; views = p.views; to_stage = p.to_stage; to_view = p.to_view; from_view = p.from_view; to_base = a; sessions = p.sessions }

  -- what was done, and its reply
  pub told : (w : World) (reply : Reply) (new : Held F) → IsAt log authors w new → IsDone log authors (says w reply) reply new
  told w reply new a = record { world = a.world; reply = refl; placed = a.placed }

  -- ---- a stage shard has had its turn
  abbrev pub with_stage : Held F → ℕ → StageDomain → List (List (List StagePacketView)) → List (List (List Ask)) → Held F
  with_stage h s new tv tb = record h { stages = slice_set h.stages s new; to_view = tv; to_base = tb }

  abbrev made : World → List (Node Stage) → List (List (List Sent)) → List (List (List Ask)) → World
  made w ns tv tb = record w { stages = ns; to_view = tv; to_base = tb }

  stage_world : (h : Held F) (s : ℕ) (new : StageDomain) (tv : List (List (List StagePacketView))) (tb : List (List (List Ask))) (d : Done) → IsStageTurn h.plan s d h.to_view h.to_base new tv tb → world_of log authors (with_stage h s new tv tb) ≡ stage_did (world_of log authors h) s d
  stage_world h s new tv tb d t =
      let w = world_of log authors h in
      let nodes : map stage_node (slice_set h.stages s new) ≡ slice_set (map stage_node h.stages) s (record { is = d.stage; runs = true })
      = map_set stage_node h.stages s new ∙ ap (slice_set (map stage_node h.stages) s) t.node in
      ap (λ ns. made w ns (sent_in tv) tb) nodes
      ∙ (ap (λ q. made w (slice_set (map stage_node h.stages) s (record { is = d.stage; runs = true })) q tb) t.sent
      ∙ ap (λ q. made w (slice_set (map stage_node h.stages) s (record { is = d.stage; runs = true })) (pushed s d.sent (sent_in h.to_view)) q) t.requests)

  stage_placed : (h : Held F) (s : ℕ) (new : StageDomain) (tv : List (List (List StagePacketView))) (tb : List (List (List Ask))) (d : Done) → IsPlaced log authors h → IsStageTurn h.plan s d h.to_view h.to_base new tv tb → IsPlaced log authors (with_stage h s new tv tb)
  stage_placed h s new tv tb d p t =
      let sent = remade h p (slice_set h.stages s new) (set_are (IsStageOf h.plan) h.plan.stages h.stages s new p.stages t.is) h.views p.views h.to_stage p.to_stage tv (t.queued p.to_view) h.from_view p.from_view h.sessions p.sessions in
      reasked (record h { stages = slice_set h.stages s new; to_view = tv }) sent tb (t.asking p.to_base)

  module _ (h : Held F) (s : ℕ) (m : ToStage) (p : IsPlaced log authors h) where
    abbrev taken : World
    taken = stage_takes (world_of log authors h) s (slice_get (map stage_node h.stages) s) m

    -- it has had a message
    pub stage_passed : (new : Held F) → IsGiven s m h new → IsAt log authors taken new
    stage_passed new g =
        let d = step (stage_of g.domain) m in
        let own = subst (λ x. IsStageTurn x s d h.to_view h.to_base g.later g.queues g.asks) (p.stages.each s g.domain g.there).plan g.turn in
        let up = stage_up (world_of log authors h) s (stage_node g.domain) m (map_get stage_node h.stages s g.domain g.there) (ap runs g.running) in
        subst (IsAt log authors taken) (sym g.is) (record { world = stage_world h s g.later g.queues g.asks d own ∙ sym up; placed = stage_placed h s g.later g.queues g.asks d p own })

    -- it has stopped, and loses the message
    pub stage_lost : is_up (slice_get (map stage_node h.stages) s) ≡ false → IsAt log authors taken h
    stage_lost down = record { world = sym (stage_down (world_of log authors h) s (slice_get (map stage_node h.stages) s) m down); placed = p }

  -- ---- the first message of an edge, on a queue that the world has
  module _ {X : Type 0} (old new : List (List (List X))) (r i : ℕ) (put : List (List (List X)) → Held F) (comes : List X → Did) (d : Did) (is : d ≡ comes (queue old r i)) where
    -- there is none
    pub none_comes : IsPlaced log authors (put old) → comes [] ≡ says (world_of log authors (put old)) idle → queue old r i ≡ [] → new ≡ old → IsDone log authors d idle (put new)
    none_comes p none empty same =
        subst (λ q. IsDone log authors d idle (put q)) (sym same)
        (subst (λ x. IsDone log authors x idle (put old)) (sym (is ∙ (ap comes empty ∙ none))) (record { world = refl; reply = refl; placed = p }))

    -- it is off, and its domain has had it
    module _ (k : X) (t : IsTaken old r i k new) where
      pub one_comes : (after : List (List (List X)) → World) → comes (k ∷ t.rest) ≡ says (after (with_queue old r i t.rest)) delivered → (last : Held F) → IsAt log authors (after new) last → IsDone log authors d delivered last
      one_comes after gives last at =
          subst (λ x. IsDone log authors x delivered last) (sym (is ∙ (ap comes t.was ∙ (gives ∙ ap (λ q. says (after q) delivered) (sym t.is))))) (told (after new) delivered last at)

      -- which is a stage shard
      module _ (s : ℕ) (m : ToStage) (p : IsPlaced log authors (put new)) where
        abbrev pub stage_has : List (List (List X)) → World
        stage_has q = stage_takes (world_of log authors (put q)) s (slice_get (map stage_node (put q).stages) s) m

        pub stage_got : comes (k ∷ t.rest) ≡ says (stage_has (with_queue old r i t.rest)) delivered → (last : Held F) → IsGiven s m (put new) last → IsDone log authors d delivered last
        stage_got gives last g = one_comes stage_has gives last (stage_passed (put new) s m p last g)

        pub stage_off : comes (k ∷ t.rest) ≡ says (stage_has (with_queue old r i t.rest)) delivered → is_up (slice_get (map stage_node (put new).stages) s) ≡ false → IsDone log authors d delivered (put new)
        stage_off gives down = one_comes stage_has gives (put new) (stage_lost (put new) s m p down)

  -- a packet to a stage shard is off its queue
  abbrev pub off_source : Held F → List (List (List BasePacketView)) → Held F
  off_source h ts = record h { to_stage = ts }

  pub source_placed : (h : Held F) (s j : ℕ) (k : BasePacketView) (ts : List (List (List BasePacketView))) → IsPlaced log authors h → IsTaken h.to_stage s j k ts → IsPlaced log authors (off_source h ts)
  source_placed h s j k ts p t =
      remade h p h.stages p.stages h.views p.views ts (still_queued (λ s j. IsFrom h.plan s j) h.to_stage ts s j k t p.to_stage) h.to_view p.to_view h.from_view p.from_view h.sessions p.sessions

  -- so is a request
  abbrev pub off_reader : Held F → List (List (List Ask)) → Held F
  off_reader h fv = record h { from_view = fv }

  pub request_placed : (h : Held F) (s r : ℕ) (a : Ask) (fv : List (List (List Ask))) → IsPlaced log authors h → IsTaken h.from_view s r a fv → IsPlaced log authors (off_reader h fv)
  request_placed h s r a fv p t =
      remade h p h.stages p.stages h.views p.views h.to_stage p.to_stage h.to_view p.to_view fv (still_queued (IsAsk h.plan) h.from_view fv s r a t p.from_view) h.sessions p.sessions
