-- One more event or delivery.
use Rattle.std.proofs.Common.{◌≡◌, List, [], ◌∷◌, ◌++◌, refl, ap, sym, ◌∙◌, subst}
use Rattle.model.specs.Fronts.{LogView}
use Rattle.model.specs.Histories.{Author}
use Rattle.protocol.specs.Edges.{Wire}
use Rattle.protocol.specs.Events.{Event, Reply}
use Rattle.protocol.specs.Laws.{IsReached, Move, happens, comes, world_after}
use Rattle.protocol.specs.Worlds.{World, start}
use Rattle.protocol.specs.WorldSteps.{Did, step, delivery}
use Rattle.machine.specs.Held.{Held, IsWhole, IsDone, world_of}

abbrev moved_by : World → Move → World
moved_by w (happens e) = (step w e).world
moved_by w (comes wire) = (delivery w wire).world

after_more : (ms : List Move) (m : Move) (w : World) → world_after w (ms ++ m ∷ []) ≡ moved_by (world_after w ms) m
after_more [] (happens e) w = refl
after_more [] (comes wire) w = refl
after_more (happens e ∷ ms) m w = after_more ms m (step w e).world
after_more (comes wire ∷ ms) m w = after_more ms m (delivery w wire).world

reached_more : (w : World) (m : Move) → IsReached w → IsReached (moved_by w m)
reached_more w m r = record {
  by_key = r.by_key;
  plan = r.plan;
  good = r.good;
  moves = r.moves ++ m ∷ [];
  after = ap (λ v. moved_by v m) r.after ∙ sym (after_more r.moves m (start r.by_key r.plan));
}

module _ {F : Type 0} (log : F → LogView) (authors : F → List Author) where
  pub whole_then : (h new : Held F) (m : Move) (d : Did) (reply : Reply) → IsWhole log authors h → d.world ≡ moved_by (world_of log authors h) m → IsDone log authors d reply new → IsWhole log authors new
  whole_then h new m d reply w is done = record {
    reached = subst IsReached (sym (done.world ∙ is)) (reached_more (world_of log authors h) m w.reached);
    placed = done.placed;
  }

  pub whole_delivered : (h new : Held F) (wire : Wire) (reply : Reply) → IsWhole log authors h → IsDone log authors (delivery (world_of log authors h) wire) reply new → IsWhole log authors new
  whole_delivered h new wire reply w done = whole_then h new (comes wire) (delivery (world_of log authors h) wire) reply w refl done

  pub whole_stepped : (h new : Held F) (e : Event) (reply : Reply) → IsWhole log authors h → IsDone log authors (step (world_of log authors h) e) reply new → IsWhole log authors new
  whole_stepped h new e reply w done = whole_then h new (happens e) (step (world_of log authors h) e) reply w refl done
