-- Orders at a stage shard.
use Rattle.std.proofs.Common.{true, false, cond, ◌≡◌, ℕ, ◌<◌, List, map, Option, Some, None, slice_get, refl, ap, sym, ◌∙◌, subst}
use Rattle.row.specs.Cells.{Datum, shard}
use Rattle.row.specs.declared.refused.Refused.{Refused}
use Rattle.row.specs.declared.refused.Refused.TheVariants.{Stopped}
use Rattle.plan.specs.Layouts.{Layout}
use Rattle.model.specs.Fronts.{LogView}
use Rattle.model.specs.Histories.{Author}
use Rattle.model.specs.Refusals.{stage_refusal}
use Rattle.protocol.specs.Events.{Reply, evicted, refused}
use Rattle.protocol.specs.Stages.{Stage, order}
use Rattle.protocol.specs.Worlds.{Node, World}
use Rattle.protocol.specs.WorldSteps.{Did, says, evict_stage_in, stage_order, stage_takes, is_up}
use Rattle.protocol.proofs.Lists.{map_get}
use Rattle.machine.specs.Held.{Held, IsPlaced, IsDone, stage_node, world_of}
use Rattle.machine.specs.Turned.{IsGiven}
use Rattle.machine.proofs.Meeting.{stands}
use Rattle.machine.proofs.Steps.{stage_passed, told}

-- a stage shard that runs takes the order
order_up : (w : World) (k : Datum) (s : ℕ) (o : Option (Node Stage)) → is_up o ≡ true → stage_order w k s o ≡ says (stage_takes w s o (order k)) evicted
order_up w k s None up = cc
order_up w k s (Some n) up = ap (λ b. cond b (says (stage_takes w s (Some n) (order k)) evicted) (says w (refused Stopped))) up

-- one that has stopped refuses it
order_down : (w : World) (k : Datum) (s : ℕ) (n : Node Stage) (o : Option (Node Stage)) → o ≡ Some n → is_up o ≡ false → stage_order w k s o ≡ says w (refused Stopped)
order_down w k s n o at down = ap (stage_order w k s) at ∙ ap (λ b. cond b (says (stage_takes w s (Some n) (order k)) evicted) (says w (refused Stopped))) (sym (ap is_up at) ∙ down)

module _ {F : Type 0} (log : F → LogView) (authors : F → List Author) where
  -- a stage shard that runs has been ordered to evict the same key
  pub stage_ordered : (h new : Held F) (s : ℕ) (j k : Datum) → j ≡ k → IsPlaced log authors h → is_up (slice_get (map stage_node h.stages) s) ≡ true → IsGiven s (order j) h new
      → IsDone log authors (stage_order (world_of log authors h) k s (slice_get (map stage_node h.stages) s)) evicted new
  stage_ordered h new s j k same p up g =
      let w = world_of log authors h in
      let o = slice_get (map stage_node h.stages) s in
      subst (λ d. IsDone log authors d evicted new) (sym (order_up w k s o up)) (told log authors (stage_takes w s o (order k)) evicted new (stage_passed log authors h s (order k) p new (subst (λ x. IsGiven s (order x) h new) same g)))

  module _ (h : Held F) (k : Datum) (q : Layout) (same : q ≡ h.plan) (p : IsPlaced log authors h) where
    abbrev stage_evicts : Did
    stage_evicts = evict_stage_in (world_of log authors h) k (stage_refusal h.plan k)

    -- the key is refused
    pub stage_refused : (e : Refused) → stage_refusal q k ≡ Some e → IsDone log authors stage_evicts (refused e) h
    stage_refused e why =
        subst (λ d. IsDone log authors d (refused e) h) (sym (ap (evict_stage_in (world_of log authors h) k) (subst (λ q. stage_refusal q k ≡ Some e) same why))) (record { world = refl; reply = refl; placed = p })

    module _ (s : ℕ) (free : stage_refusal q k ≡ None) (at : s ≡ shard k q.stages) where
      stage_evicts_is : stage_evicts ≡ stage_order (world_of log authors h) k s (slice_get (map stage_node h.stages) s)
      stage_evicts_is =
          let w = world_of log authors h in
          ap (evict_stage_in w k) (subst (λ q. stage_refusal q k ≡ None) same free)
          ∙ ap (λ x. stage_order w k x (slice_get (map stage_node h.stages) x)) (sym (subst (λ (q : Layout). s ≡ shard k q.stages) same at))

      pub stage_evict_done : (reply : Reply) (new : Held F) → IsDone log authors (stage_order (world_of log authors h) k s (slice_get (map stage_node h.stages) s)) reply new → IsDone log authors stage_evicts reply new
      stage_evict_done reply new done = subst (λ d. IsDone log authors d reply new) (sym stage_evicts_is) done

      pub stage_evict_stopped : s < q.stages → is_up (slice_get (map stage_node h.stages) s) ≡ false → IsDone log authors stage_evicts (refused Stopped) h
      stage_evict_stopped there down =
          let d = stands h.stages s (subst (λ n. s < n) (sym p.stages.size) (subst (λ (q : Layout). s < q.stages) same there)) in
          let o = slice_get (map stage_node h.stages) s in
          let not = order_down (world_of log authors h) k s (stage_node d.0) o (map_get stage_node h.stages s d.0 d.1) down in
          stage_evict_done (refused Stopped) h (subst (λ x. IsDone log authors x (refused Stopped) h) (sym not) (record { world = refl; reply = refl; placed = p }))
