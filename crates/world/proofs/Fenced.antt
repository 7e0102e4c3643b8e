-- What a fence makes of the world.
use Rattle.std.proofs.Common.{true, false, cond, ◌&&◌, ◌≡◌, ℕ, suc, List, map, Some, slice_get, slice_set, refl, ap, sym, ◌∙◌, subst}
use Rattle.row.specs.declared.refused.Refused.TheVariants.{Stopped}
use Rattle.model.specs.Fronts.{LogView}
use Rattle.model.specs.Histories.{Author}
use Rattle.model.specs.Places.{sources}
use Rattle.protocol.specs.Events.{fence_sent, refused}
use Rattle.protocol.specs.Worlds.{World, Caller}
use Rattle.protocol.specs.WorldSteps.{says, with_caller, numbered, open_fence, marked, sends_fence, fence_by, lower_run, all_run}
use Rattle.protocol.proofs.Lists.{map_get}
use Rattle.schedule.specs.Sessions.{Session}
use Rattle.machine.specs.Held.{Held, IsAt, IsPlaced, IsDone, KnowsOwn, world_of, base_node}
use Rattle.machine.proofs.Acks.{knows_still, session_world, session_placed}

-- a session that has taken a number
abbrev pub called : Session → Session
called s = record s { is = record s.is { number = suc s.is.number } }

module _ {F : Type 0} (log : F → LogView) (authors : F → List Author) where
  module _ (h : Held F) (se : ℕ) (s : Session) (p : IsPlaced log authors h) (at : slice_get h.sessions se ≡ Some s) where
    abbrev w : World
    w = world_of log authors h

    there : slice_get w.callers se ≡ Some s.is
    there = map_get (λ (x : Session). x.is) h.sessions se s at

    knows : (t : Session) → t.own ≡ s.own → KnowsOwn (map (base_node log authors) h.bases) se t
    knows t same = knows_still (map (base_node log authors) h.bases) se s t same (p.sessions.each se s at)

    pub fence_refused : (one : Session) → one ≡ called s → (lower_run w && all_run w.views) ≡ false → IsDone log authors (fence_by w se (slice_get w.callers se)) (refused Stopped) (record h { sessions = slice_set h.sessions se one })
    fence_refused one is down =
        let e : fence_by w se (slice_get w.callers se) ≡ says (numbered w se s.is) (refused Stopped)
        = ap (fence_by w se) there ∙ ap (λ b. cond b (says (sends_fence w se s.is) fence_sent) (says (numbered w se s.is) (refused Stopped))) down in
        subst (λ d. IsDone log authors d (refused Stopped) (record h { sessions = slice_set h.sessions se one })) (sym e)
        (record {
          world = session_world log authors h se one ∙ ap (λ (x : Session). with_caller w se x.is) is;
          reply = refl;
          placed = session_placed log authors h se one p (knows one (ap (λ (x : Session). x.own) is));
        })

    module _ (one two : Session) (number : ℕ) (first : one ≡ called s) (by : number ≡ s.is.number) (second : two ≡ record one { is = record one.is { fence = Some (open_fence h.plan number) } }) where
      abbrev opened : Held F
      opened = record h { sessions = slice_set h.sessions se two }

      abbrev opening : Caller
      opening = record s.is { number = suc s.is.number; fence = Some (open_fence h.plan s.is.number) }

      two_is : two.is ≡ opening
      two_is = ap (λ (x : Session). x.is) second ∙ (ap (λ (x : Session). record x.is { fence = Some (open_fence h.plan number) }) first ∙ ap (λ n. record (called s).is { fence = Some (open_fence h.plan n) }) by)

      two_own : two.own ≡ s.own
      two_own = ap (λ (x : Session). x.own) second ∙ ap (λ (x : Session). x.own) first

      pub opened_placed : IsPlaced log authors opened
      opened_placed = session_placed log authors h se two p (knows two two_own)

      opened_world : world_of log authors opened ≡ with_caller w se opening
      opened_world = session_world log authors h se two ∙ ap (with_caller w se) two_is

      pub fence_goes : (new : Held F) → (lower_run w && all_run w.views) ≡ true → IsAt log authors (marked (world_of log authors opened) (sources h.plan) (record { session = se; number = number })) new
          → IsDone log authors (fence_by w se (slice_get w.callers se)) fence_sent new
      fence_goes new up done =
          let e : fence_by w se (slice_get w.callers se) ≡ says (sends_fence w se s.is) fence_sent
          = ap (fence_by w se) there ∙ ap (λ b. cond b (says (sends_fence w se s.is) fence_sent) (says (numbered w se s.is) (refused Stopped))) up in
          subst (λ d. IsDone log authors d fence_sent new) (sym e)
          (record {
            world = done.world ∙ (ap (λ v. marked v (sources h.plan) (record { session = se; number = number })) opened_world ∙ ap (λ n. marked (with_caller w se opening) (sources h.plan) (record { session = se; number = n })) by);
            reply = refl;
            placed = done.placed;
          })
