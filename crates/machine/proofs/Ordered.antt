-- Orders and wants at a view shard.
use Rattle.std.proofs.Common.{true, false, cond, ◌≡◌, ℕ, List, map, Option, Some, None, slice_get, refl, ap, sym, ◌∙◌, subst}
use Rattle.row.specs.Cells.{Datum}
use Rattle.row.specs.declared.refused.Refused.{Refused}
use Rattle.row.specs.declared.refused.Refused.TheVariants.{Stopped}
use Rattle.plan.specs.Layouts.{Layout, view_named}
use Rattle.model.specs.Fronts.{LogView}
use Rattle.model.specs.Histories.{Author}
use Rattle.model.specs.Refusals.{read_refusal}
use Rattle.packet.specs.Readers.{Reader, readers}
use Rattle.protocol.specs.Events.{Reply, evicted, refused}
use Rattle.protocol.specs.Views.{View, ToView, order}
use Rattle.protocol.specs.Worlds.{Node, World}
use Rattle.protocol.specs.WorldSteps.{Did, says, evict_view_in, reader_of, view_order, view_takes, is_up}
use Rattle.protocol.proofs.Lists.{map_get}
use Rattle.machine.specs.Held.{Held, IsPlaced, IsDone, view_node, world_of}
use Rattle.machine.proofs.Meeting.{reader_there, stands}

-- the order names a view, and a key of it
evict_is : (w : World) (o : Option ℕ) (i : ℕ) (k : Datum) (q : Option Refused) (r : ℕ) → o ≡ Some i → q ≡ None → r ≡ reader_of w.plan i k → evict_view_in w o k q ≡ view_order w k r (slice_get w.views r)
evict_is w o i k q r named free at = ap (λ x. evict_view_in w x k q) named ∙ (ap (evict_view_in w (Some i) k) free ∙ ap (λ x. view_order w k x (slice_get w.views x)) (sym at))

module _ {F : Type 0} (log : F → LogView) (authors : F → List Author) where
  -- what a view shard has had of a key, it has had of the same key
  pub same_key : (h new : Held F) (r : ℕ) (m : Datum → ToView) (j k : Datum) (reply : Reply) → j ≡ k → IsDone log authors (view_takes (world_of log authors h) r (slice_get (map view_node h.views) r) (m j)) reply new
      → IsDone log authors (view_takes (world_of log authors h) r (slice_get (map view_node h.views) r) (m k)) reply new
  same_key h new r m j k reply same done = subst (λ k. IsDone log authors (view_takes (world_of log authors h) r (slice_get (map view_node h.views) r) (m k)) reply new) same done

  -- a domain that runs has been ordered to evict the key
  pub ordered : (h new : Held F) (r : ℕ) (k : Datum) (o : Option (Node View)) (reply : Reply) → is_up o ≡ true → IsDone log authors (view_takes (world_of log authors h) r o (order k)) reply new → IsDone log authors (view_order (world_of log authors h) k r o) evicted new
  ordered h new r k None reply up done = cc
  ordered h new r k (Some n) reply up done =
      let w = world_of log authors h in
      subst (λ b. IsDone log authors (cond b (says (view_takes w r (Some n) (order k)).world evicted) (says w (refused Stopped))) evicted new) (sym up)
      (record { world = done.world; reply = refl; placed = done.placed })

  -- one that has stopped refuses it
  not_ordered : (h : Held F) (r : ℕ) (k : Datum) (n : Node View) (o : Option (Node View)) → IsPlaced log authors h → o ≡ Some n → is_up o ≡ false → IsDone log authors (view_order (world_of log authors h) k r o) (refused Stopped) h
  not_ordered h r k n o p at down =
      let w = world_of log authors h in
      let stopped : n.runs ≡ false = ap is_up (sym at) ∙ down in
      subst (λ o. IsDone log authors (view_order w k r o) (refused Stopped) h) (sym at)
      (subst (λ b. IsDone log authors (cond b (says (view_takes w r (Some n) (order k)).world evicted) (says w (refused Stopped))) (refused Stopped) h) (sym stopped)
      (record { world = refl; reply = refl; placed = p }))

  module _ (h : Held F) (name : List ℕ) (k : Datum) (q : Layout) (same : q ≡ h.plan) (p : IsPlaced log authors h) where
    abbrev evicts : Did
    evicts = evict_view_in (world_of log authors h) (view_named h.plan name) k (read_refusal h.plan (view_named h.plan name) k)

    -- the arguments are refused
    pub evict_refused : (e : Refused) → read_refusal q (view_named q name) k ≡ Some e → IsDone log authors evicts (refused e) h
    evict_refused e why =
        subst (λ d. IsDone log authors d (refused e) h) (sym (ap (evict_view_in (world_of log authors h) (view_named h.plan name) k) (subst (λ q. read_refusal q (view_named q name) k ≡ Some e) same why))) (record { world = refl; reply = refl; placed = p })

    module _ (i r : ℕ) (named : view_named q name ≡ Some i) (free : read_refusal q (view_named q name) k ≡ None) (at : r ≡ reader_of h.plan i k) where
      evicts_is : evicts ≡ view_order (world_of log authors h) k r (slice_get (map view_node h.views) r)
      evicts_is =
          evict_is (world_of log authors h) (view_named h.plan name) i k (read_refusal h.plan (view_named h.plan name) k) r (subst (λ q. view_named q name ≡ Some i) same named)
          (subst (λ q. read_refusal q (view_named q name) k ≡ None) same free) at

      pub evict_done : (reply : Reply) (new : Held F) → IsDone log authors (view_order (world_of log authors h) k r (slice_get (map view_node h.views) r)) reply new → IsDone log authors evicts reply new
      evict_done reply new done = subst (λ d. IsDone log authors d reply new) (sym evicts_is) done

      pub evict_stopped : (x : Reader) → slice_get (readers h.plan) r ≡ Some x → is_up (slice_get (map view_node h.views) r) ≡ false → IsDone log authors evicts (refused Stopped) h
      evict_stopped x there down =
          let s = stands h.views r (reader_there log authors h r x p there) in
          evict_done (refused Stopped) h (not_ordered h r k (view_node s.0) (slice_get (map view_node h.views) r) p (map_get view_node h.views r s.0 s.1) down)
