-- Markers of a fence on their way to the sources, one after the other.
use Rattle.std.proofs.Common.{false, ◌≡◌, ℕ, zero, suc, ◌≤◌, List, [], ◌∷◌, drop, map, length, Option, Some, slice_get, refl, ap, sym, ◌∙◌}
use Rattle.model.specs.Fronts.{LogView}
use Rattle.model.specs.Histories.{Author}
use Rattle.packet.specs.Messages.{Mark}
use Rattle.protocol.specs.Bases.{ToBase, Verdict, marker}
use Rattle.protocol.specs.Worlds.{World}
use Rattle.protocol.specs.WorldSteps.{marked, base_takes, is_up}
use Rattle.machine.specs.Held.{Held, IsAt, IsPlaced, world_of, base_node}
use Rattle.machine.specs.Turned.{IsBaseGiven}
use Rattle.machine.proofs.Based.{base_lost, base_passed}
use Rattle.world.proofs.Rounded.{base_plan, drop_end}

module _ {F : Type 0} (log : F → LogView) (authors : F → List Author) where
  -- a message to a base shard leaves the plan and the sessions
  module _ (h new : Held F) (b : ℕ) (m : ToBase) (v : Option Verdict) (g : IsBaseGiven log authors b m v h new) where
    pub given_plan : new.plan ≡ h.plan
    given_plan = ap (λ (x : Held F). x.plan) g.is

    pub given_sessions : new.sessions ≡ h.sessions
    given_sessions = ap (λ (x : Held F). x.sessions) g.is

  module _ (h : Held F) (b : ℕ) (m : Mark) (p : IsPlaced log authors h) where
    pub marker_passed : (v : Option Verdict) (new : Held F) → IsBaseGiven log authors b (marker m) v h new → IsAt log authors (base_takes (world_of log authors h) b (slice_get (map (base_node log authors) h.bases) b) (marker m)) new
    marker_passed v new g = base_passed log authors h b (marker m) p (λ x. refl) v new g

    pub marker_lost : is_up (slice_get (map (base_node log authors) h.bases) b) ≡ false → IsAt log authors (base_takes (world_of log authors h) b (slice_get (map (base_node log authors) h.bases) b) (marker m)) h
    marker_lost down = base_lost log authors h b (marker m) p down

-- ---- a marker goes on
mark_more : (w : World) (bs : List ℕ) (i b : ℕ) (m : Mark) → slice_get bs i ≡ Some b → marked w (drop i bs) m ≡ marked (base_takes w b (slice_get w.bases b) (marker m)) (drop (suc i) bs) m
mark_more w [] i b m at = cc
mark_more w (x ∷ bs) zero b m at = let e : x ≡ b = cc in ap (λ y. marked (base_takes w y (slice_get w.bases y) (marker m)) bs m) e
mark_more w (x ∷ bs) (suc i) b m at = mark_more w bs i b m at

module _ {F : Type 0} (log : F → LogView) (authors : F → List Author) where
  module _ (h new : Held F) (b : ℕ) (m : Mark) (taken : IsAt log authors (base_takes (world_of log authors h) b (slice_get (map (base_node log authors) h.bases) b) (marker m)) new) where
    pub mark_plan : new.plan ≡ h.plan
    mark_plan = ap (λ (w : World). w.plan) taken.world ∙ base_plan (world_of log authors h) b (slice_get (map (base_node log authors) h.bases) b) (marker m)

    pub mark_goes_on : (bs : List ℕ) (i j : ℕ) (last : World) → slice_get bs i ≡ Some b → j ≡ suc i → marked (world_of log authors h) (drop i bs) m ≡ last → marked (world_of log authors new) (drop j bs) m ≡ last
    mark_goes_on bs i j last at one whole =
        ap (λ k. marked (world_of log authors new) (drop k bs) m) one ∙ (ap (λ w. marked w (drop (suc i) bs) m) taken.world ∙ (sym (mark_more (world_of log authors h) bs i b m at) ∙ whole))

  pub marks_end : (h : Held F) (m : Mark) (bs : List ℕ) (i : ℕ) (last : World) → IsPlaced log authors h → length bs ≤ i → marked (world_of log authors h) (drop i bs) m ≡ last → IsAt log authors last h
  marks_end h m bs i last p le is = record { world = ap (λ xs. marked (world_of log authors h) xs m) (sym (drop_end bs i le)) ∙ is; placed = p }
