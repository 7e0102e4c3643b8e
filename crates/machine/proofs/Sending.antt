-- The first packet on the edge to a view shard: it is for it, and in turn; and what it makes of the world.
use Rattle.std.proofs.Common.{true, false, cond, ◌≡◌, ℕ, ◌<◌, List, [], ◌∷◌, map, Option, Some, None, slice_get, refl, ap, sym, ◌∙◌, subst}
use Rattle.model.specs.Fronts.{LogView}
use Rattle.model.specs.Histories.{Author}
use Rattle.model.specs.Queries.{Line}
use Rattle.packet.specs.Lines.{entries_of}
use Rattle.packet.specs.Messages.{StagePacketView}
use Rattle.packet.specs.Readers.{Reader}
use Rattle.packet.specs.Truth.{Grows, Pointwise, sent_of}
use Rattle.packet.specs.declared.mode.Mode.TheVariants as mode
use Rattle.protocol.specs.Edges.{queue}
use Rattle.protocol.specs.Events.{Reply, delivered, idle}
use Rattle.protocol.specs.Laws.{IsNextSent}
use Rattle.protocol.specs.Views.{View, ToView, packet}
use Rattle.protocol.specs.Worlds.{Node, World}
use Rattle.protocol.specs.WorldSteps.{says, stage_came, view_takes, is_up}
use Rattle.protocol.proofs.Every.{every_turn}
use Rattle.protocol.proofs.Lists.{map_get}
use Rattle.schedule.specs.Taken.{IsTaken}
use Rattle.view_domain.specs.Codes.{GoesWith, IsFrom}
use Rattle.view_domain.specs.Domains.{Domain as ViewDomain, view_of, lines_of}
use Rattle.machine.specs.Held.{Held, IsWhole, IsPlaced, IsDone, IsSentBy, AgreeingAreOne, world_of, view_node, sent_in, runs}
use Rattle.machine.proofs.Queued.{first_queued, map_queue, map_taken, still_queued}
use Rattle.machine.proofs.Meeting.{prefix_agree}
use Rattle.machine.proofs.Steps.{remade}

fronts_one : (are_one : LogView → LogView → Type 0) → AgreeingAreOne are_one → (line : List LogView) (to : Line) → Grows (entries_of line) to → Pointwise (GoesWith are_one) line to
fronts_one are_one one [] [] h = tt
fronts_one are_one one [] (t ∷ to) h = absurd h
fronts_one are_one one (l ∷ line) [] h = absurd h
fronts_one are_one one (l ∷ line) (t ∷ to) h = (one l (record l { entries = t }) (prefix_agree l.entries t h.0), fronts_one are_one one line to h.1)

module _ {F : Type 0} (log : F → LogView) (authors : F → List Author) where
  next_sent : (h : Held F) (r s : ℕ) (d : ViewDomain) (x : StagePacketView) (xs : List StagePacketView) → IsWhole log authors h → slice_get h.views r ≡ Some d → d.mode ≡ mode.Running → queue h.to_view r s ≡ x ∷ xs → IsNextSent (view_of d) s (sent_of x)
  next_sent h r s d x xs w at running q =
      (every_turn (world_of log authors h) w.reached).1 r s (view_node d) (sent_of x) (map sent_of xs) (map_get view_node h.views r d at) (ap runs running) (map_queue sent_of h.to_view r s ∙ ap (map sent_of) q)

  same_reader : (a b : Reader) → Some a ≡ Some b → a ≡ b
  same_reader a b e = cc

  pub meets_sent : (are_one : LogView → LogView → Type 0) → AgreeingAreOne are_one → (h : Held F) (r s : ℕ) (d : ViewDomain) (x : StagePacketView) (xs : List StagePacketView) → IsWhole log authors h → slice_get h.views r ≡ Some d → d.mode ≡ mode.Running
      → queue h.to_view r s ≡ x ∷ xs → IsFrom are_one d s x
  meets_sent are_one one h r s d x xs w at running q =
      let is = w.placed.views.each r d at in
      let by = first_queued (IsSentBy h.plan) h.to_view r s x xs q w.placed.to_view in
      let next = next_sent h r s d x xs w at running q in
      let reader = same_reader (record { view = x.view; shard = x.shard }) (record { view = d.view; shard = d.shard }) (sym by.reader ∙ is.reader) in
      record {
        plan = by.plan ∙ sym is.plan;
        stage = by.stage;
        place = subst (λ p. s < p.stages) (sym is.plan) by.place;
        view = ap (λ (x : Reader). x.view) reader;
        shard = ap (λ (x : Reader). x.shard) reader;
        one = λ line here. fronts_one are_one one line x.to (subst (λ l. Grows l x.to) (line_is line here next.from) next.grows);
      }
    where
      same_line : (a b : Line) → Some a ≡ Some b → a ≡ b
      same_line a b e = cc

      line_is : (line : List LogView) → slice_get d.cut s ≡ Some line → slice_get (lines_of d.cut) s ≡ Some (sent_of x).from → (sent_of x).from ≡ entries_of line
      line_is line here there = same_line (sent_of x).from (entries_of line) (sym there ∙ map_get entries_of d.cut s line here)

  -- ---- the packet is off its queue
  abbrev pub off_stage : Held F → List (List (List StagePacketView)) → Held F
  off_stage h tv = record h { to_view = tv }

  pub sent_placed : (h : Held F) (r s : ℕ) (x : StagePacketView) (tv : List (List (List StagePacketView))) → IsTaken h.to_view r s x tv → IsPlaced log authors h → IsPlaced log authors (off_stage h tv)
  sent_placed h r s x tv t p =
      remade log authors h p h.stages p.stages h.views p.views h.to_stage p.to_stage tv (still_queued (IsSentBy h.plan) h.to_view tv r s x t p.to_view) h.from_view p.from_view h.sessions p.sessions

  came_is : (h : Held F) (r s : ℕ) (x : StagePacketView) (tv : List (List (List StagePacketView))) → IsTaken h.to_view r s x tv
      → stage_came (world_of log authors h) s r (queue (sent_in h.to_view) r s) ≡ view_takes (world_of log authors (off_stage h tv)) r (slice_get (map view_node h.views) r) (packet s (sent_of x))
  came_is h r s x tv t =
      let w = world_of log authors h in
      ap (stage_came w s r) (map_queue sent_of h.to_view r s ∙ ap (map sent_of) t.was)
      ∙ ap (λ q. view_takes (record w { to_view = q }) r (slice_get (map view_node h.views) r) (packet s (sent_of x))) (sym (ap sent_in t.is ∙ map_taken sent_of h.to_view r s t.rest))

  pub sent_passed : (h : Held F) (r s : ℕ) (x : StagePacketView) (tv : List (List (List StagePacketView))) → IsTaken h.to_view r s x tv → (reply : Reply) (last : Held F)
      → IsDone log authors (view_takes (world_of log authors (off_stage h tv)) r (slice_get (map view_node h.views) r) (packet s (sent_of x))) reply last
      → IsDone log authors (stage_came (world_of log authors h) s r (queue (sent_in h.to_view) r s)) reply last
  sent_passed h r s x tv t reply last done = subst (λ d. IsDone log authors d reply last) (sym (came_is h r s x tv t)) done

  view_down : (w : World) (r : ℕ) (o : Option (Node View)) (m : ToView) → is_up o ≡ false → view_takes w r o m ≡ says w delivered
  view_down w r None m e = refl
  view_down w r (Some n) m e = ap (λ b. cond b (view_takes w r (Some (record { is = n.is; runs = true })) m) (says w delivered)) e

  pub sent_off : (h : Held F) (r s : ℕ) (x : StagePacketView) (tv : List (List (List StagePacketView))) → IsPlaced log authors h → IsTaken h.to_view r s x tv → is_up (slice_get (map view_node h.views) r) ≡ false
      → IsDone log authors (stage_came (world_of log authors h) s r (queue (sent_in h.to_view) r s)) delivered (off_stage h tv)
  sent_off h r s x tv p t down =
      let lost = came_is h r s x tv t ∙ view_down (world_of log authors (off_stage h tv)) r (slice_get (map view_node h.views) r) (packet s (sent_of x)) down in
      subst (λ d. IsDone log authors d delivered (off_stage h tv)) (sym lost) (record { world = refl; reply = refl; placed = sent_placed h r s x tv t p })

  pub sent_still : (h : Held F) (r s : ℕ) (tv : List (List (List StagePacketView))) → IsPlaced log authors h → queue h.to_view r s ≡ [] → tv ≡ h.to_view
      → IsDone log authors (stage_came (world_of log authors h) s r (queue (sent_in h.to_view) r s)) idle (off_stage h tv)
  sent_still h r s tv p q same =
      subst (λ d. IsDone log authors d idle (off_stage h tv)) (sym (ap (stage_came (world_of log authors h) s r) (map_queue sent_of h.to_view r s ∙ ap (map sent_of) q)))
      (subst (λ t. IsDone log authors (says (world_of log authors h) idle) idle (off_stage h t)) (sym same) (record { world = refl; reply = refl; placed = p }))
