-- What one turn of a view shard makes of the world.
use Rattle.std.proofs.Common.{true, cond, ◌≡◌, ℕ, List, [], ◌∷◌, map, length, Some, slice_get, slice_set, refl, ap, sym, ◌∙◌, subst}
use Rattle.model.specs.Fronts.{LogView}
use Rattle.model.specs.Histories.{Author}
use Rattle.packet.specs.Messages.{Ask, Mark}
use Rattle.packet.specs.Readers.{readers}
use Rattle.packet.specs.declared.mode.Mode.TheVariants as mode
use Rattle.protocol.specs.Events.{Reply, delivered}
use Rattle.protocol.specs.Views.{View, ToView, Done}
use Rattle.protocol.specs.ViewSteps.{step}
use Rattle.protocol.specs.Worlds.{Node, World}
use Rattle.protocol.specs.WorldSteps.{says, view_did, view_takes, acked, ack_from, lengths_of}
use Rattle.protocol.proofs.Lists.{map_set, map_get}
use Rattle.view_domain.specs.Domains.{Domain as ViewDomain, view_of, lines_of}
use Rattle.machine.specs.Held.{Held, IsPlaced, IsDone, IsViewOf, world_of, view_node, runs}
use Rattle.machine.specs.Turned.{IsViewTurn}
use Rattle.machine.proofs.Steps.{set_are, remade}

module _ {F : Type 0} (log : F → LogView) (authors : F → List Author) where
  abbrev pub with_view : Held F → ℕ → ViewDomain → List (List (List Ask)) → Held F
  with_view h r new fv = record h { views = slice_set h.views r new; from_view = fv }

  abbrev made : World → List (Node View) → List (List (List Ask)) → World
  made w ns fv = record w { views = ns; from_view = fv }

  view_world : (h : Held F) (r : ℕ) (new : ViewDomain) (fv : List (List (List Ask))) (d : Done) → IsViewTurn h.plan r d h.from_view new fv → world_of log authors (with_view h r new fv) ≡ view_did (world_of log authors h) r d
  view_world h r new fv d t =
      let w = world_of log authors h in
      ap (λ ns. made w ns fv) (map_set view_node h.views r new ∙ ap (slice_set (map view_node h.views) r) t.node)
      ∙ ap (λ q. made w (slice_set (map view_node h.views) r (record { is = d.view; runs = true })) q) t.sent

  view_placed : (h : Held F) (r : ℕ) (new : ViewDomain) (fv : List (List (List Ask))) (d : Done) → IsPlaced log authors h → IsViewTurn h.plan r d h.from_view new fv → IsPlaced log authors (with_view h r new fv)
  view_placed h r new fv d p t =
      remade log authors h p h.stages p.stages (slice_set h.views r new) (set_are (IsViewOf h.plan) (length (readers h.plan)) h.views r new p.views t.is) h.to_stage p.to_stage h.to_view p.to_view fv (t.queued p.from_view) h.sessions p.sessions

  module _ (h : Held F) (r : ℕ) (old new : ViewDomain) (fv : List (List (List Ask))) (m : ToView) (p : IsPlaced log authors h) (at : slice_get h.views r ≡ Some old) (running : old.mode ≡ mode.Running)
      (turn : IsViewTurn old.plan r (step (view_of old) m) h.from_view new fv) where
    abbrev d : Done
    d = step (view_of old) m

    own : IsViewTurn h.plan r d h.from_view new fv
    own = subst (λ q. IsViewTurn q r d h.from_view new fv) (p.views.each r old at).plan turn

    pub placed : IsPlaced log authors (with_view h r new fv)
    placed = view_placed h r new fv d p own

    taken : view_takes (world_of log authors h) r (slice_get (map view_node h.views) r) m ≡ acked (world_of log authors (with_view h r new fv)) r d.acks (lengths_of d.view.cut)
    taken =
        let w = world_of log authors h in
        ap (λ o. view_takes w r o m) (map_get view_node h.views r old at)
        ∙ (ap (λ b. cond b (acked (view_did w r d) r d.acks (lengths_of d.view.cut)) (says w delivered)) (ap runs running)
        ∙ ap (λ v. acked v r d.acks (lengths_of d.view.cut)) (sym (view_world h r new fv d own)))

    pub viewed_none : d.acks ≡ [] → IsDone log authors (view_takes (world_of log authors h) r (slice_get (map view_node h.views) r) m) delivered (with_view h r new fv)
    viewed_none none =
        subst (λ x. IsDone log authors x delivered (with_view h r new fv)) (sym (taken ∙ ap (λ ms. acked (world_of log authors (with_view h r new fv)) r ms (lengths_of d.view.cut)) none))
        (record { world = refl; reply = refl; placed = placed })

    pub viewed_ack : (mark : Mark) → d.acks ≡ mark ∷ [] → (cut : _) → cut ≡ lengths_of (lines_of new.cut) → (reply : Reply) (last : Held F)
        → IsDone log authors (ack_from (world_of log authors (with_view h r new fv)) mark.session (slice_get (world_of log authors (with_view h r new fv)).callers mark.session) mark.number r cut) reply last
        → IsDone log authors (view_takes (world_of log authors h) r (slice_get (map view_node h.views) r) m) reply last
    viewed_ack mark one cut is reply last done =
        let v = world_of log authors (with_view h r new fv) in
        let same : lines_of new.cut ≡ d.view.cut = ap (λ (n : Node View). n.is.cut) turn.node in
        let all : view_takes (world_of log authors h) r (slice_get (map view_node h.views) r) m ≡ ack_from v mark.session (slice_get v.callers mark.session) mark.number r cut
        = taken ∙ (ap (λ ms. acked v r ms (lengths_of d.view.cut)) one ∙ ap (λ c. ack_from v mark.session (slice_get v.callers mark.session) mark.number r c) (ap lengths_of (sym same) ∙ sym is)) in
        subst (λ x. IsDone log authors x reply last) (sym all) done
