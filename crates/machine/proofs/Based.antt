-- What one turn of a base shard makes of the world, and the first request on an edge to it.
use Rattle.std.proofs.Common.{Bool, true, false, cond, not, ◌≡◌, ℕ, ◌<◌, List, [], map, Option, Some, None, slice_get, slice_set, refl, ap, sym, ◌∙◌, subst}
use Rattle.model.specs.Fronts.{LogView}
use Rattle.model.specs.Histories.{Author}
use Rattle.model.specs.Legal.{most_sessions}
use Rattle.model.specs.Places.{base_count, source_at}
use Rattle.packet.specs.Messages.{Ask, BasePacketView}
use Rattle.protocol.specs.Bases.{Base, ToBase, Verdict, request, Done}
use Rattle.protocol.specs.BaseSteps.{step}
use Rattle.protocol.specs.Edges.{queue}
use Rattle.protocol.specs.Events.{delivered, idle}
use Rattle.protocol.specs.Worlds.{Node, World}
use Rattle.protocol.specs.WorldSteps.{Did, base_did, base_takes, base_ask_came, is_up}
use Rattle.protocol.proofs.Lists.{map_set, map_get, map_same}
use Rattle.base_domain.specs.Domains.{Domain as BaseDomain}
use Rattle.base_domain.specs.Received.{base_at, IsFor}
use Rattle.schedule.specs.Taken.{IsTaken}
use Rattle.machine.specs.Held.{Held, Are, IsPlaced, IsAt, IsDone, IsBaseOf, IsStageAsk, KnowsOwn, world_of, base_node}
use Rattle.machine.specs.Turned.{IsBaseGiven, IsBaseTurn}
use Rattle.machine.proofs.Queued.{first_queued, still_queued}
use Rattle.machine.proofs.Steps.{none_comes, one_comes, reasked, rebased, set_are}

abbrev node : Base → Bool → Node Base
node x t = record { is = x; runs = t }

base_up : (w : World) (b : ℕ) (n : Node Base) (m : ToBase) → slice_get w.bases b ≡ Some n → n.runs ≡ true → base_takes w b (slice_get w.bases b) m ≡ base_did w b (step n.is m)
base_up w b n m at runs = ap (λ o. base_takes w b o m) at ∙ ap (λ t. cond t (base_did w b (step n.is m)) w) runs

base_down : (w : World) (b : ℕ) (o : Option (Node Base)) (m : ToBase) → is_up o ≡ false → base_takes w b o m ≡ w
base_down w b None m e = refl
base_down w b (Some n) m e = ap (λ t. cond t (base_did w b (step n.is m)) w) e

module _ {F : Type 0} (log : F → LogView) (authors : F → List Author) where
  abbrev pub with_base : Held F → ℕ → BaseDomain F → List (List (List BasePacketView)) → Held F
  with_base h b new ts = record h { bases = slice_set h.bases b new; to_stage = ts }

  abbrev made : World → List (Node Base) → List (List (List BasePacketView)) → World
  made w ns ts = record w { bases = ns; to_stage = ts }

  pub base_world : (h : Held F) (b : ℕ) (new : BaseDomain F) (ts : List (List (List BasePacketView))) (d : Done) → IsBaseTurn log authors h.plan b d h.to_stage new ts → world_of log authors (with_base h b new ts) ≡ base_did (world_of log authors h) b d
  base_world h b new ts d t =
      let w = world_of log authors h in
      ap (λ ns. made w ns ts) (map_set (base_node log authors) h.bases b new ∙ ap (slice_set (map (base_node log authors) h.bases) b) t.node)
      ∙ ap (λ q. made w (slice_set (map (base_node log authors) h.bases) b (record { is = d.base; runs = true })) q) t.sent

  -- the turn is that of base shard b of the plan
  pub own_turn : (h : Held F) (b : ℕ) (old new : BaseDomain F) (ts : List (List (List BasePacketView))) (d : Done) → IsPlaced log authors h → slice_get h.bases b ≡ Some old → IsBaseTurn log authors (log old.front).plan (log old.front).base d h.to_stage new ts
      → IsBaseTurn log authors h.plan b d h.to_stage new ts
  own_turn h b old new ts d p at turn =
      let is = p.bases.each b old at in
      subst (λ c. IsBaseTurn log authors h.plan c d h.to_stage new ts) is.base (subst (λ q. IsBaseTurn log authors q (log old.front).base d h.to_stage new ts) is.plan turn)

  -- the log of the shard is as it was
  pub quiet_placed : (h : Held F) (b : ℕ) (old new : BaseDomain F) (ts : List (List (List BasePacketView))) (d : Done) → IsPlaced log authors h → slice_get h.bases b ≡ Some old → base_node log authors new ≡ base_node log authors old
      → IsBaseTurn log authors h.plan b d h.to_stage new ts → IsPlaced log authors (with_base h b new ts)
  quiet_placed h b old new ts d p at same t =
      let nodes : map (base_node log authors) (slice_set h.bases b new) ≡ map (base_node log authors) h.bases = map_same (base_node log authors) h.bases b old new at same in
      let here = set_are (IsBaseOf log authors h.plan) (base_count h.plan) h.bases b new p.bases t.is in
      rebased log authors h p (slice_set h.bases b new) here ts (t.queued p.to_stage) h.sessions (subst (λ ns. Are (KnowsOwn ns) most_sessions h.sessions) (sym nodes) p.sessions)

  -- ---- a message that leaves the log: a request or a marker
  module _ (h : Held F) (b : ℕ) (m : ToBase) (p : IsPlaced log authors h) where
    abbrev pub base_taken : World
    base_taken = base_takes (world_of log authors h) b (slice_get (map (base_node log authors) h.bases) b) m

    pub base_passed : ((x : Base) → (step x m).base ≡ x) → (v : Option Verdict) (new : Held F) → IsBaseGiven log authors b m v h new → IsAt log authors base_taken new
    base_passed still v new g =
        let x = base_at log authors g.domain in
        let d = step x m in
        let own = own_turn h b g.domain g.later g.queues d p g.there g.turn in
        let same : base_node log authors g.later ≡ base_node log authors g.domain = own.node ∙ (ap (λ y. node y true) (still x) ∙ ap (λ t. node x (not t)) (sym g.running)) in
        let up = base_up (world_of log authors h) b (base_node log authors g.domain) m (map_get (base_node log authors) h.bases b g.domain g.there) (ap not g.running) in
        subst (IsAt log authors base_taken) (sym g.is) (record { world = base_world h b g.later g.queues d own ∙ sym up; placed = quiet_placed h b g.domain g.later g.queues d p g.there same own })

    -- it has stopped, and loses the message
    pub base_lost : is_up (slice_get (map (base_node log authors) h.bases) b) ≡ false → IsAt log authors base_taken h
    base_lost down = record { world = sym (base_down (world_of log authors h) b (slice_get (map (base_node log authors) h.bases) b) m down); placed = p }

  -- ---- a request of a stage shard is off its queue
  module _ (h : Held F) (s j : ℕ) (p : IsPlaced log authors h) where
    abbrev ask_comes : Did
    ask_comes = base_ask_came (world_of log authors h) s j (queue h.to_base j s)

    abbrev ask_off : List (List (List Ask)) → Held F
    ask_off tb = record h { to_base = tb }

    pub ask_still : (tb : List (List (List Ask))) → queue h.to_base j s ≡ [] → tb ≡ h.to_base → IsDone log authors ask_comes idle (ask_off tb)
    ask_still tb = none_comes log authors h.to_base tb j s ask_off (base_ask_came (world_of log authors h) s j) ask_comes refl p refl

    module _ (a : Ask) (tb : List (List (List Ask))) (t : IsTaken h.to_base j s a tb) where
      pub ask_placed : IsPlaced log authors (ask_off tb)
      ask_placed = reasked log authors h p tb (still_queued (IsStageAsk h.plan) h.to_base tb j s a t p.to_base)

      -- it is for each base shard of the plan
      pub ask_for : (b : ℕ) (d : BaseDomain F) → slice_get h.bases b ≡ Some d → IsFor (log d.front) most_sessions (request s a)
      ask_for b d at = subst (λ q. s < q.stages) (sym (p.bases.each b d at).plan) (first_queued (IsStageAsk h.plan) h.to_base j s a t.rest t.was p.to_base)

      module _ (b : ℕ) (own : b ≡ source_at h.plan j) where
        abbrev ask_given : ℕ → List (List (List Ask)) → World
        ask_given c q = base_takes (world_of log authors (ask_off q)) c (slice_get (map (base_node log authors) h.bases) c) (request s a)

        ask_done : (new : Held F) → IsAt log authors (ask_given b tb) new → IsDone log authors ask_comes delivered new
        ask_done new at =
            one_comes log authors h.to_base tb j s ask_off (base_ask_came (world_of log authors h) s j) ask_comes refl a t (ask_given (source_at h.plan j)) refl new (subst (λ c. IsAt log authors (ask_given c tb) new) own at)

        pub ask_passed : (v : Option Verdict) (new : Held F) → IsBaseGiven log authors b (request s a) v (ask_off tb) new → IsDone log authors ask_comes delivered new
        ask_passed v new g = ask_done new (base_passed (ask_off tb) b (request s a) ask_placed (λ x. refl) v new g)

        pub ask_lost : is_up (slice_get (map (base_node log authors) h.bases) b) ≡ false → IsDone log authors ask_comes delivered (ask_off tb)
        ask_lost down = ask_done (ask_off tb) (base_lost (ask_off tb) b (request s a) ask_placed down)
