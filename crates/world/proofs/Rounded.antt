-- Rounds of deliveries, one after the other.
use Rattle.std.proofs.Common.{Bool, true, false, cond, not, ◌==◌, ◌≡◌, ℕ, zero, suc, ◌≤◌, List, [], ◌∷◌, ◌++◌, drop, length, Option, Some, None, slice_get, slice_set, is_some, refl, ap, sym, ◌∙◌, subst, arith}
use Rattle.std.specs.List.{list_all}
use Rattle.plan.specs.Layouts.{Layout}
use Rattle.model.specs.Fronts.{LogView}
use Rattle.model.specs.Histories.{Author, Lengths}
use Rattle.model.specs.Places.{source_at}
use Rattle.packet.specs.Messages.{Ask, BasePacketView, Sent, Mark}
use Rattle.protocol.specs.Bases.{Base}
use Rattle.protocol.specs.Bases as base
use Rattle.protocol.specs.BaseSteps as on_base
use Rattle.protocol.specs.Edges.{Wire, to_stage_from, to_view_from, to_stage_back, to_base_back, queue, with_queue, wires}
use Rattle.row.specs.declared.refused.Refused.TheVariants.{Behind}
use Rattle.protocol.specs.Events.{Reply, delivered, fenced, refused, settled}
use Rattle.protocol.specs.Stages as stage
use Rattle.protocol.specs.StageSteps as on_stage
use Rattle.protocol.specs.Views as view
use Rattle.protocol.specs.ViewSteps as on_view
use Rattle.protocol.specs.Worlds.{Node, World, Caller, Fence}
use Rattle.protocol.specs.WorldSteps.{Did, Round, round, rounds, delivery, ended_by, is_idle, says, base_takes, base_did, stage_takes, stage_did, view_takes, view_did, acked, raised, with_caller, ack_from, ack_of, fence_told, fence_over, is_covered, base_came, stage_came, ask_came, base_ask_came, lengths_of}
use Rattle.machine.specs.Held.{Held, IsWhole, IsDone, world_of}
use Rattle.world.specs.Rounds.{HasMoved, IsRound}
use Rattle.world.proofs.Reached.{whole_delivered}

-- ---- a delivery leaves the plan
abbrev keeps : World → World → Type 0
keeps w v = v.plan ≡ w.plan

-- of two worlds with the plan each has it
either_world : (p : Layout) (t : Bool) (v w : World) → v.plan ≡ p → w.plan ≡ p → (cond t v w).plan ≡ p
either_world p true v w e f = e
either_world p false v w e f = f

pub base_plan : (w : World) (b : ℕ) (o : Option (Node Base)) (m : base.ToBase) → (base_takes w b o m).plan ≡ w.plan
base_plan w b None m = refl
base_plan w b (Some n) m = either_world w.plan n.runs (base_did w b (on_base.step n.is m)) w refl refl

stage_plan : (w : World) (s : ℕ) (o : Option (Node stage.Stage)) (m : stage.ToStage) → (stage_takes w s o m).plan ≡ w.plan
stage_plan w s None m = refl
stage_plan w s (Some n) m = either_world w.plan n.runs (stage_did w s (on_stage.step n.is m)) w refl refl

-- and so with their replies
either_plan : (p : Layout) (t : Bool) (a b : Did) → a.world.plan ≡ p → b.world.plan ≡ p → (cond t a b).world.plan ≡ p
either_plan p true a b e f = e
either_plan p false a b e f = f

over_plan : (w : World) (se : ℕ) (c : Caller) (acks : List (Option Lengths)) → (fence_over w se c acks).world.plan ≡ w.plan
over_plan w se c acks =
    either_plan w.plan (list_all (is_covered w se) acks) (says (with_caller w se (record c { floors = raised w.plan c.floors acks; fence = None })) (fenced se)) (says (with_caller w se (record c { fence = None })) (refused Behind)) refl refl

told_plan : (w : World) (se : ℕ) (c : Caller) (number : ℕ) (acks : List (Option Lengths)) → (fence_told w se c number acks).world.plan ≡ w.plan
told_plan w se c number acks =
    either_plan w.plan (list_all is_some acks) (fence_over w se c acks) (says (with_caller w se (record c { fence = Some (record { number = number; acks = acks }) })) delivered) (over_plan w se c acks) refl

ack_plan : (w : World) (se : ℕ) (c : Caller) (f : Option Fence) (number r : ℕ) (cut : Lengths) → (ack_of w se c f number r cut).world.plan ≡ w.plan
ack_plan w se c None number r cut = refl
ack_plan w se c (Some f) number r cut = either_plan w.plan (f.number == number) (fence_told w se c number (slice_set f.acks r (Some cut))) (says w delivered) (told_plan w se c number (slice_set f.acks r (Some cut))) refl

from_plan : (w : World) (se : ℕ) (o : Option Caller) (number r : ℕ) (cut : Lengths) → (ack_from w se o number r cut).world.plan ≡ w.plan
from_plan w se None number r cut = refl
from_plan w se (Some c) number r cut = ack_plan w se c c.fence number r cut

acked_plan : (w : World) (r : ℕ) (ms : List Mark) (cut : Lengths) → (acked w r ms cut).world.plan ≡ w.plan
acked_plan w r [] cut = refl
acked_plan w r (m ∷ ms) cut = from_plan w m.session (slice_get w.callers m.session) m.number r cut

view_plan : (w : World) (r : ℕ) (o : Option (Node view.View)) (m : view.ToView) → (view_takes w r o m).world.plan ≡ w.plan
view_plan w r None m = refl
view_plan w r (Some n) m =
    let d = on_view.step n.is m in
    either_plan w.plan n.runs (acked (view_did w r d) r d.acks (lengths_of d.view.cut)) (says w delivered) (acked_plan (view_did w r d) r d.acks (lengths_of d.view.cut)) refl

base_came_plan : (w : World) (j s : ℕ) (q : List BasePacketView) → (base_came w j s q).world.plan ≡ w.plan
base_came_plan w j s [] = refl
base_came_plan w j s (k ∷ ks) = let v : World = record w { to_stage = with_queue w.to_stage s j ks } in stage_plan v s (slice_get v.stages s) (stage.packet j k)

stage_came_plan : (w : World) (s r : ℕ) (q : List Sent) → (stage_came w s r q).world.plan ≡ w.plan
stage_came_plan w s r [] = refl
stage_came_plan w s r (x ∷ xs) = let v : World = record w { to_view = with_queue w.to_view r s xs } in view_plan v r (slice_get v.views r) (view.packet s x)

ask_came_plan : (w : World) (r s : ℕ) (q : List Ask) → (ask_came w r s q).world.plan ≡ w.plan
ask_came_plan w r s [] = refl
ask_came_plan w r s (a ∷ asks) = let v : World = record w { from_view = with_queue w.from_view s r asks } in stage_plan v s (slice_get v.stages s) (stage.request a)

base_ask_plan : (w : World) (s j : ℕ) (q : List Ask) → (base_ask_came w s j q).world.plan ≡ w.plan
base_ask_plan w s j [] = refl
base_ask_plan w s j (a ∷ asks) = let v : World = record w { to_base = with_queue w.to_base j s asks } in base_plan v (source_at v.plan j) (slice_get v.bases (source_at v.plan j)) (base.request s a)

pub delivery_plan : (w : World) (wire : Wire) → (delivery w wire).world.plan ≡ w.plan
delivery_plan w (to_stage_from j s) = base_came_plan w j s (queue w.to_stage s j)
delivery_plan w (to_view_from s r) = stage_came_plan w s r (queue w.to_view r s)
delivery_plan w (to_stage_back r s) = ask_came_plan w r s (queue w.from_view s r)
delivery_plan w (to_base_back s j) = base_ask_plan w s j (queue w.to_base j s)

-- ---- a round, edge by edge
abbrev pub at_round : World → List ℕ → Bool → Round
at_round w ended moved = record { world = w; ended = ended; moved = moved }

pub round_more : (r : Round) (ws : List Wire) (i : ℕ) (wire : Wire) → slice_get ws i ≡ Some wire
    → round r (drop i ws) ≡ round (at_round (delivery r.world wire).world (r.ended ++ ended_by (delivery r.world wire).reply) (cond (is_idle (delivery r.world wire).reply) r.moved true)) (drop (suc i) ws)
round_more r [] i wire at = cc
round_more r (x ∷ ws) zero wire at =
    let e : x ≡ wire = cc in
    subst (λ y. round r (y ∷ ws) ≡ round (at_round (delivery r.world wire).world (r.ended ++ ended_by (delivery r.world wire).reply) (cond (is_idle (delivery r.world wire).reply) r.moved true)) ws) (sym e) refl
round_more r (x ∷ ws) (suc i) wire at = round_more r ws i wire at

pub drop_end : {X : Type 0} (ws : List X) (i : ℕ) → length ws ≤ i → drop i ws ≡ []
drop_end [] zero le = refl
drop_end [] (suc i) le = refl
drop_end (x ∷ ws) zero le = absurd (omega (arith, le))
drop_end (x ∷ ws) (suc i) le = drop_end ws i (omega (arith, le))

module _ {F : Type 0} (log : F → LogView) (authors : F → List Author) where
  pub has_moved : (h new : Held F) (wire : Wire) (reply : Reply) (before after : List ℕ) (idle : Bool) → IsWhole log authors h → IsDone log authors (delivery (world_of log authors h) wire) reply new → after ≡ before ++ ended_by reply → idle ≡ is_idle reply
      → HasMoved log authors (delivery (world_of log authors h) wire) before (not idle) after new
  has_moved h new wire reply before after idle w done ended is = record {
    world = done.world;
    whole = whole_delivered log authors h new wire reply w done;
    ended = ended ∙ ap (λ r. before ++ ended_by r) done.reply;
    moved = ap not (is ∙ ap is_idle done.reply);
  }

  other_way : (b m : Bool) → cond (not b) true m ≡ cond b m true
  other_way true m = refl
  other_way false m = refl

  module _ (h new : Held F) (wire : Wire) (before after : List ℕ) (had : Bool) (moved : HasMoved log authors (delivery (world_of log authors h) wire) before had after new) where
    pub plan_stays : new.plan ≡ h.plan
    plan_stays = ap (λ (w : World). w.plan) moved.world ∙ delivery_plan (world_of log authors h) wire

    pub goes_on : (ws : List Wire) (i j : ℕ) (m next : Bool) (last : Round) → slice_get ws i ≡ Some wire → j ≡ suc i → next ≡ cond had true m → round (at_round (world_of log authors h) before m) (drop i ws) ≡ last
        → round (at_round (world_of log authors new) after next) (drop j ws) ≡ last
    goes_on ws i j m next last at one is whole =
        let d = delivery (world_of log authors h) wire in
        let flag : next ≡ cond (is_idle d.reply) m true = is ∙ (ap (λ b. cond b true m) moved.moved ∙ other_way (is_idle d.reply) m) in
        ap (λ k. round (at_round (world_of log authors new) after next) (drop k ws)) one
        ∙ (ap (λ w. round (at_round w after next) (drop (suc i) ws)) moved.world
        ∙ (ap (λ e. round (at_round d.world e next) (drop (suc i) ws)) moved.ended
        ∙ (ap (λ b. round (at_round d.world (before ++ ended_by d.reply) b) (drop (suc i) ws)) flag
        ∙ (sym (round_more (at_round (world_of log authors h) before m) ws i wire at) ∙ whole))))

  pub round_ends : (h : Held F) (ended : List ℕ) (moved : Bool) (ws : List Wire) (i : ℕ) (last : Round) → IsWhole log authors h → length ws ≤ i → round (at_round (world_of log authors h) ended moved) (drop i ws) ≡ last → IsRound log authors last moved ended h
  round_ends h ended moved ws i last w le is =
      let e : at_round (world_of log authors h) ended moved ≡ last = ap (λ xs. round (at_round (world_of log authors h) ended moved) xs) (sym (drop_end ws i le)) ∙ is in
      record { world = ap (λ (r : Round). r.world) e; whole = w; ended = ap (λ (r : Round). r.ended) e; moved = ap (λ (r : Round). r.moved) e }

  -- ---- rounds, one after the other
  module _ (h new : Held F) (before after : List ℕ) (had : Bool) (r : IsRound log authors (round (at_round (world_of log authors h) before false) (wires h.plan)) had after new) where
    abbrev done : Round
    done = round (at_round (world_of log authors h) before false) (wires h.plan)

    pub rounds_go : had ≡ true → (n : ℕ) → rounds (suc n) (world_of log authors h) before ≡ rounds n (world_of log authors new) after
    rounds_go true_ n =
        ap (λ b. cond b (rounds n done.world done.ended) (says done.world (settled done.ended))) (sym r.moved ∙ true_)
        ∙ (ap (λ w. rounds n w done.ended) (sym r.world) ∙ ap (λ e. rounds n (world_of log authors new) e) (sym r.ended))

    pub rounds_end : had ≡ false → (n : ℕ) → IsDone log authors (rounds (suc n) (world_of log authors h) before) (settled after) new
    rounds_end false_ n =
        let e : rounds (suc n) (world_of log authors h) before ≡ says done.world (settled done.ended)
        = ap (λ b. cond b (rounds n done.world done.ended) (says done.world (settled done.ended))) (sym r.moved ∙ false_) in
        subst (λ d. IsDone log authors d (settled after) new) (sym e) (record { world = r.world; reply = ap settled r.ended; placed = r.whole.placed })
