-- What a want makes of the world.
use Rattle.std.proofs.Common.{Bool, true, false, cond, ◌&&◌, ◌≡◌, ℕ, List, map, Option, Some, None, is_some, Bor, slice_get, refl, ap, sym, ◌∙◌, subst, Result, Ok, Err, IfOk}
use Rattle.std.specs.Option.{option_copied}
use Rattle.row.specs.Cells.{Datum}
use Rattle.row.specs.declared.refused.Refused.{Refused}
use Rattle.row.specs.declared.refused.Refused.TheVariants.{Stopped}
use Rattle.plan.specs.Layouts.{view_named}
use Rattle.model.specs.Fronts.{LogView}
use Rattle.model.specs.Histories.{Author}
use Rattle.partial.specs.States.{is_filled}
use Rattle.protocol.specs.Events.{Event, Reply, refused, want, wanted}
use Rattle.protocol.specs.Views as view
use Rattle.protocol.specs.Worlds.{World}
use Rattle.protocol.specs.WorldSteps.{Did, says, step, want_by, want_in, wanted_at, view_takes, is_up, lower_run}
use Rattle.protocol.proofs.Lists.{map_get}
use Rattle.schedule.specs.Sessions.{Session}
use Rattle.view_domain.specs.Domains.{Domain as ViewDomain, view_of}
use Rattle.machine.specs.Held.{Held, IsPlaced, IsDone, world_of, view_node}
use Rattle.machine.proofs.Meeting.{stands}
use Rattle.world.specs.Sought.{IsDenied, IsSought}
use Rattle.world.proofs.Looking.{denied}

pub some_copied : {X : Type 0} (o : Option (Bor X)) → is_some o ≡ is_some (option_copied o)
some_copied None = refl
some_copied (Some x) = refl

module _ {F : Type 0} (log : F → LogView) (authors : F → List Author) where
  -- ---- a want at a view shard
  module _ (h : Held F) (k : Datum) (r : ℕ) (d : ViewDomain) (p : IsPlaced log authors h) (at : slice_get h.views r ≡ Some d) where
    abbrev w : World
    w = world_of log authors h

    abbrev asks : Did
    asks = says (view_takes w r (Some (view_node d)) (view.want k)).world wanted

    there : slice_get (map view_node h.views) r ≡ Some (view_node d)
    there = map_get view_node h.views r d at

    wanted_is : (filled up : Bool) → filled ≡ is_filled ((view_of d).keys.at k) → up ≡ (is_up (slice_get (map view_node h.views) r) && lower_run w)
        → wanted_at w k r (slice_get (map view_node h.views) r) ≡ cond filled (says w wanted) (cond up asks (says w (refused Stopped)))
    wanted_is filled up shown runs =
        let both : (view_node d).runs && lower_run w ≡ up = ap (λ o. is_up o && lower_run w) (sym there) ∙ sym runs in
        ap (wanted_at w k r) there
        ∙ (ap (λ b. cond b (says w wanted) (cond ((view_node d).runs && lower_run w) asks (says w (refused Stopped)))) (sym shown)
        ∙ ap (λ b. cond filled (says w wanted) (cond b asks (says w (refused Stopped)))) both)

    stays_at : (reply : Reply) → wanted_at w k r (slice_get (map view_node h.views) r) ≡ says w reply → IsDone log authors (wanted_at w k r (slice_get (map view_node h.views) r)) reply h
    stays_at reply is = subst (λ x. IsDone log authors x reply h) (sym is) (record { world = refl; reply = refl; placed = p })

    pub shown_already : true ≡ is_filled ((view_of d).keys.at k) → IsDone log authors (wanted_at w k r (slice_get (map view_node h.views) r)) wanted h
    shown_already shown = stays_at wanted (wanted_is true (is_up (slice_get (map view_node h.views) r) && lower_run w) shown refl)

    pub cannot_ask : false ≡ is_filled ((view_of d).keys.at k) → false ≡ (is_up (slice_get (map view_node h.views) r) && lower_run w) → IsDone log authors (wanted_at w k r (slice_get (map view_node h.views) r)) (refused Stopped) h
    cannot_ask shown down = stays_at (refused Stopped) (wanted_is false false shown down)

    pub has_asked : (reply : Reply) (new : Held F) → false ≡ is_filled ((view_of d).keys.at k) → true ≡ (is_up (slice_get (map view_node h.views) r) && lower_run w)
        → IsDone log authors (view_takes w r (slice_get (map view_node h.views) r) (view.want k)) reply new → IsDone log authors (wanted_at w k r (slice_get (map view_node h.views) r)) wanted new
    has_asked reply new shown up done =
        subst (λ x. IsDone log authors x wanted new) (sym (wanted_is false true shown up))
        (record { world = done.world ∙ ap (λ o. (view_takes w r o (view.want k)).world) there; reply = refl; placed = done.placed })

  pub is_up_of : (a b : Bool) → true ≡ (a && b) → a ≡ true
  is_up_of true b e = refl
  is_up_of false b e = cc

  -- ---- of a session
  has_wanted : (h : Held F) (se : ℕ) (name : List ℕ) (k : Datum) (i r : ℕ) (reply : Reply) (last : Held F) → IsSought h se name k i r → IsDone log authors (wanted_at (world_of log authors h) k r (slice_get (map view_node h.views) r)) reply last
      → IsDone log authors (want_by (world_of log authors h) (slice_get (world_of log authors h).callers se) name k) reply last
  has_wanted h se name k i r reply last sought done =
      let w = world_of log authors h in
      let s = stands h.sessions se sought.session in
      let there : slice_get w.callers se ≡ Some (s.0).is = map_get (λ (x : Session). x.is) h.sessions se s.0 s.1 in
      let all : want_by w (slice_get w.callers se) name k ≡ wanted_at w k r (slice_get w.views r)
      = ap (λ o. want_by w o name k) there
      ∙ (ap (want_in w (view_named w.plan name) k) sought.free ∙ (ap (λ v. want_in w v k None) sought.named ∙ ap (λ q. wanted_at w k q (slice_get w.views q)) (sym sought.place))) in
      subst (λ x. IsDone log authors x reply last) (sym all) done

  -- as the event that it is
  pub wants : {R E : Type 0} (said : R → Reply) (h : Held F) (se : ℕ) (name : List ℕ) (k : Datum) (i r : ℕ) (last : Held F) (e : Event) → e ≡ want se name k → IsSought h se name k i r → (o : Result R E)
      → IfOk o (λ x. IsDone log authors (wanted_at (world_of log authors h) k r (slice_get (map view_node h.views) r)) (said x) last) → IfOk o (λ x. IsDone log authors (step (world_of log authors h) e) (said x) last)
  wants said h se name k i r last e is sought (Ok x) done = subst (λ y. IsDone log authors (step (world_of log authors h) y) (said x) last) (sym is) (has_wanted h se name k i r (said x) last sought done)
  wants said h se name k i r last e is sought (Err x) done = tt

  pub want_denied : (h : Held F) (se : ℕ) (name : List ℕ) (k : Datum) (x : Refused) (e : Event) → e ≡ want se name k → IsPlaced log authors h → IsDenied h se name k x → IsDone log authors (step (world_of log authors h) e) (refused x) h
  want_denied h se name k x e is p why =
      let w = world_of log authors h in
      subst (λ y. IsDone log authors (step w y) (refused x) h) (sym is) (denied log authors h se name k x (λ o. want_by w o name k) refl (λ said c. ap (want_in w (view_named h.plan name) k) said) p why)
