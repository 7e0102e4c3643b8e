-- What the stop of a domain makes of the world.
use Rattle.std.proofs.Common.{true, false, cond, ◌≡◌, ◌≢◌, ℕ, zero, suc, ◌≤◌, List, [], ◌∷◌, map, length, Option, Some, None, slice_get, slice_set, refl, ap, sym, ◌∙◌, subst}
use Rattle.plan.specs.Layouts.{Layout}
use Rattle.plan.specs.declared.domain.DomainId.{DomainId}
use Rattle.plan.specs.declared.domain.DomainId.TheVariants as domain
use Rattle.model.specs.Fronts.{LogView}
use Rattle.model.specs.Histories.{Author}
use Rattle.model.specs.Legal.{most_sessions}
use Rattle.model.specs.Places.{base_count}
use Rattle.packet.specs.Readers.{readers}
use Rattle.packet.specs.declared.mode.Mode.{Mode}
use Rattle.packet.specs.declared.mode.Mode.TheVariants as mode
use Rattle.protocol.specs.Bases.{Base}
use Rattle.protocol.specs.Edges.{is_there}
use Rattle.protocol.specs.Events.{refused, stopped}
use Rattle.protocol.specs.Worlds.{Node, World}
use Rattle.protocol.specs.WorldSteps.{says, off, off_at, after_own, own_in, stops, stop_at}
use Rattle.protocol.proofs.Lists.{map_set, map_get, set_size}
use Rattle.row.specs.declared.refused.Refused.TheVariants.{UnknownPlace}
use Rattle.base_domain.specs.Domains.{Domain as BaseDomain}
use Rattle.schedule.specs.Codes.{spot_of}
use Rattle.schedule.specs.declared.wire.Spot.{Spot}
use Rattle.schedule.specs.declared.wire.Spot.TheVariants as spot
use Rattle.stage_domain.specs.Domains.{Domain as StageDomain}
use Rattle.stage_domain.specs.Domains as stage_domain
use Rattle.view_domain.specs.Domains.{Domain as ViewDomain}
use Rattle.view_domain.specs.Domains as view_domain
use Rattle.machine.specs.Held.{Held, Are, IsAt, IsPlaced, IsDone, IsBaseOf, IsStageOf, IsViewOf, KnowsOwn, world_of, base_node, stage_node, view_node, runs}
use Rattle.world.specs.Stopped.{stopped_at}
use Rattle.machine.proofs.Acks.{past_end}
use Rattle.machine.proofs.Steps.{rebased, remade, set_are, told}

-- ---- it runs no more, and is as it was in all else
-- one that does not run is off
still : {X : Type 0} (n : Node X) → n.runs ≡ false → n ≡ off n
still n e = ap (λ b. record n { runs = b }) e

-- it runs, or has stopped
by_mode : {P : Type 0} (m : Mode) → m ≢ mode.Broken → (m ≡ mode.Running → P) → (m ≢ mode.Running → runs m ≡ false → P) → P
by_mode mode.Running whole ran not = ran refl
by_mode mode.Stopped whole ran not = not (λ e. cc) refl
by_mode mode.Broken whole ran not = absurd (whole refl)

not_broken : mode.Stopped ≢ mode.Broken
not_broken = λ e. cc

stage_off : (p : Layout) (s : ℕ) (old new : StageDomain) → IsStageOf p s old → (old.mode ≡ mode.Running → new ≡ stage_domain.stopped old) → (old.mode ≢ mode.Running → new ≡ old)
    → (stage_node new ≡ off (stage_node old)) × IsStageOf p s new
stage_off p s old new is ran not =
    by_mode old.mode is.whole (λ e. (ap stage_node (ran e), subst (IsStageOf p s) (sym (ran e)) (record { plan = is.plan; shard = is.shard; place = is.place; whole = not_broken })))
    (λ no idle. (ap stage_node (not no) ∙ still (stage_node old) idle, subst (IsStageOf p s) (sym (not no)) is))

view_off : (p : Layout) (r : ℕ) (old new : ViewDomain) → IsViewOf p r old → (old.mode ≡ mode.Running → new ≡ view_domain.stopped old) → (old.mode ≢ mode.Running → new ≡ old) → (view_node new ≡ off (view_node old)) × IsViewOf p r new
view_off p r old new is ran not =
    by_mode old.mode is.whole (λ e. (ap view_node (ran e), subst (IsViewOf p r) (sym (ran e)) (record { plan = is.plan; reader = is.reader; place = is.place; whole = not_broken })))
    (λ no idle. (ap view_node (not no) ∙ still (view_node old) idle, subst (IsViewOf p r) (sym (not no)) is))

-- ---- one of them is off
off_here : {D X : Type 0} (f : D → Node X) (xs : List D) (i : ℕ) (old new : D) → slice_get xs i ≡ Some old → f new ≡ off (f old) → map f (slice_set xs i new) ≡ off_at i (slice_get (map f xs) i) (map f xs)
off_here f xs i old new at is = map_set f xs i new ∙ (ap (slice_set (map f xs) i) is ∙ sym (ap (λ o. off_at i o (map f xs)) (map_get f xs i old at)))

off_past : {D X : Type 0} (f : D → Node X) (xs : List D) (i : ℕ) → length xs ≤ i → map f xs ≡ off_at i (slice_get (map f xs) i) (map f xs)
off_past f xs i le = sym (ap (λ o. off_at i o (map f xs)) (past_end f xs i le))

-- a session's last entry stands where it stood
own_off : (nodes : List (Node Base)) (b : ℕ) (n : Node Base) → slice_get nodes b ≡ Some n → (se c : ℕ) → own_in se (slice_get (slice_set nodes b (off n)) c) ≡ own_in se (slice_get nodes c)
own_off [] b n at se c = refl
own_off (x ∷ xs) zero n at se zero = let e : x ≡ n = cc in ap (λ (m : Node Base). after_own se 0 0 m.is.authors) (sym e)
own_off (x ∷ xs) zero n at se (suc c) = refl
own_off (x ∷ xs) (suc b) n at se zero = refl
own_off (x ∷ xs) (suc b) n at se (suc c) = own_off xs b n at se c

-- ---- the plan has the domain
stop_known : (w : World) (d : DomainId) → is_there w.plan d ≡ true → stop_at w (Some d) ≡ says (stops w d) stopped
stop_known w d e = ap (λ b. cond b (says (stops w d) stopped) (says w (refused UnknownPlace))) e

-- it stops at its place
stop_is : (w : World) (d : DomainId) → stops w d ≡ stopped_at w (spot_of w.plan d)
stop_is w (domain.Base t n) = refl
stop_is w (domain.Stage n) = refl
stop_is w (domain.View i j) = refl

module _ {F : Type 0} (log : F → LogView) (authors : F → List Author) where
  -- ---- at a place
  pub base_stops : (h : Held F) (b : ℕ) (old new : BaseDomain F) → IsPlaced log authors h → slice_get h.bases b ≡ Some old → new ≡ record old { stopped = true } → IsAt log authors (stopped_at (world_of log authors h) (spot.Base b)) (record h { bases = slice_set h.bases b new })
  base_stops h b old new p at is =
      let f = base_node log authors in
      let o = p.bases.each b old at in
      let many : length (map f (slice_set h.bases b new)) ≡ length (map f h.bases) = ap length (map_set f h.bases b new) ∙ set_size (map f h.bases) b (f new) in
      let own : (se c : ℕ) → own_in se (slice_get (map f (slice_set h.bases b new)) c) ≡ own_in se (slice_get (map f h.bases) c)
      = λ se c. ap (λ ns. own_in se (slice_get ns c)) (map_set f h.bases b new ∙ ap (slice_set (map f h.bases) b) (ap f is)) ∙ own_off (map f h.bases) b (f old) (map_get f h.bases b old at) se c in
      let here = set_are (IsBaseOf log authors h.plan) (base_count h.plan) h.bases b new p.bases (subst (IsBaseOf log authors h.plan b) (sym is) (record { plan = o.plan; base = o.base; sessions = o.sessions })) in
      let know : Are (KnowsOwn (map f (slice_set h.bases b new))) most_sessions h.sessions
      = record { size = p.sessions.size; each = λ se s there. record { size = (p.sessions.each se s there).size ∙ sym many; each = λ b. (p.sessions.each se s there).each b ∙ sym (own se b) } } in
      record {
        world = ap (λ ns. record (world_of log authors h) { bases = ns }) (off_here f h.bases b old new at (ap f is));
        placed = rebased log authors h p (slice_set h.bases b new) here h.to_stage p.to_stage h.sessions know;
      }

  pub no_base_stops : (h : Held F) (b : ℕ) → IsPlaced log authors h → length h.bases ≤ b → IsAt log authors (stopped_at (world_of log authors h) (spot.Base b)) h
  no_base_stops h b p le = record { world = ap (λ ns. record (world_of log authors h) { bases = ns }) (off_past (base_node log authors) h.bases b le); placed = p }

  pub stage_stops : (h : Held F) (s : ℕ) (old new : StageDomain) → IsPlaced log authors h → slice_get h.stages s ≡ Some old → (old.mode ≡ mode.Running → new ≡ stage_domain.stopped old) → (old.mode ≢ mode.Running → new ≡ old)
      → IsAt log authors (stopped_at (world_of log authors h) (spot.Stage s)) (record h { stages = slice_set h.stages s new })
  stage_stops h s old new p at ran not =
      let o = stage_off h.plan s old new (p.stages.each s old at) ran not in
      record {
        world = ap (λ ns. record (world_of log authors h) { stages = ns }) (off_here stage_node h.stages s old new at o.0);
        placed = remade log authors h p (slice_set h.stages s new) (set_are (IsStageOf h.plan) h.plan.stages h.stages s new p.stages o.1) h.views p.views h.to_stage p.to_stage h.to_view p.to_view h.from_view p.from_view h.sessions p.sessions;
      }

  pub no_stage_stops : (h : Held F) (s : ℕ) → IsPlaced log authors h → length h.stages ≤ s → IsAt log authors (stopped_at (world_of log authors h) (spot.Stage s)) h
  no_stage_stops h s p le = record { world = ap (λ ns. record (world_of log authors h) { stages = ns }) (off_past stage_node h.stages s le); placed = p }

  pub view_stops : (h : Held F) (r : ℕ) (old new : ViewDomain) → IsPlaced log authors h → slice_get h.views r ≡ Some old → (old.mode ≡ mode.Running → new ≡ view_domain.stopped old) → (old.mode ≢ mode.Running → new ≡ old)
      → IsAt log authors (stopped_at (world_of log authors h) (spot.View r)) (record h { views = slice_set h.views r new })
  view_stops h r old new p at ran not =
      let o = view_off h.plan r old new (p.views.each r old at) ran not in
      let w = ap (λ ns. record (world_of log authors h) { views = ns }) (off_here view_node h.views r old new at o.0) in
      let here = set_are (IsViewOf h.plan) (length (readers h.plan)) h.views r new p.views o.1 in
      record { world = w; placed = remade log authors h p h.stages p.stages (slice_set h.views r new) here h.to_stage p.to_stage h.to_view p.to_view h.from_view p.from_view h.sessions p.sessions }

  pub no_view_stops : (h : Held F) (r : ℕ) → IsPlaced log authors h → length h.views ≤ r → IsAt log authors (stopped_at (world_of log authors h) (spot.View r)) h
  no_view_stops h r p le = record { world = ap (λ ns. record (world_of log authors h) { views = ns }) (off_past view_node h.views r le); placed = p }

  pub same_spot : (h last : Held F) (x y : Spot) → x ≡ y → IsAt log authors (stopped_at (world_of log authors h) y) last → IsAt log authors (stopped_at (world_of log authors h) x) last
  same_spot h last x y same at = subst (λ z. IsAt log authors (stopped_at (world_of log authors h) z) last) (sym same) at

  -- ---- by the name of the domain
  pub stop_done : (h : Held F) (o : Option DomainId) (d : DomainId) (x : Spot) (last : Held F) → o ≡ Some d → is_there h.plan d ≡ true → x ≡ spot_of h.plan d → IsAt log authors (stopped_at (world_of log authors h) x) last → IsDone log authors (stop_at (world_of log authors h) o) stopped last
  stop_done h o d x last is there at done =
      let w = world_of log authors h in
      let all : stop_at w o ≡ says (stopped_at w x) stopped = ap (stop_at w) is ∙ (stop_known w d there ∙ ap (λ v. says v stopped) (stop_is w d ∙ ap (stopped_at w) (sym at))) in
      subst (λ y. IsDone log authors y stopped last) (sym all) (told log authors (stopped_at w x) stopped last done)

  -- ---- the plan has no such domain
  pub stop_none : (h : Held F) (o : Option DomainId) → IsPlaced log authors h → o ≡ None → IsDone log authors (stop_at (world_of log authors h) o) (refused UnknownPlace) h
  stop_none h o p is = subst (λ o. IsDone log authors (stop_at (world_of log authors h) o) (refused UnknownPlace) h) (sym is) (record { world = refl; reply = refl; placed = p })

  pub stop_other : (h : Held F) (o : Option DomainId) (d : DomainId) → IsPlaced log authors h → o ≡ Some d → is_there h.plan d ≡ false → IsDone log authors (stop_at (world_of log authors h) o) (refused UnknownPlace) h
  stop_other h o d p is not =
      let w = world_of log authors h in
      subst (λ o. IsDone log authors (stop_at w o) (refused UnknownPlace) h) (sym is)
      (subst (λ b. IsDone log authors (cond b (says (stops w d) stopped) (says w (refused UnknownPlace))) (refused UnknownPlace) h) (sym not) (record { world = refl; reply = refl; placed = p }))
