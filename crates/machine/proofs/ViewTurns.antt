-- A message to a view shard: where it and its requests stand then.
use Rattle.std.proofs.Common.{Bool, true, false, cond, ◌==◌, ◌≡◌, ℕ, zero, suc, ◌<◌, List, [], ◌∷◌, map, length, Some, slice_index_or, refl, ap, sym, ◌∙◌, subst}
use Rattle.std.specs.List.{range_with_len}
use Rattle.row.specs.Bags.{Each}
use Rattle.row.specs.Cells.{Datum}
use Rattle.partial.specs.States.{is_hole}
use Rattle.plan.specs.Layouts.{Layout}
use Rattle.packet.specs.Messages.{Ask, none_of}
use Rattle.packet.specs.Outboxes.{packets_on}
use Rattle.packet.specs.Readers.{view_of as view_in}
use Rattle.protocol.specs.Edges.{pushed}
use Rattle.protocol.specs.Views.{View, ToView, packet, want, order, Done}
use Rattle.protocol.specs.ViewSteps.{step, ask, begins, quiet, again}
use Rattle.protocol.specs.Worlds.{Node}
use Rattle.protocol.proofs.Parts.{each_map_of}
use Rattle.view_domain.specs.Domains.{Domain, view_of}
use Rattle.view_domain.specs.Outboxes.{OutboxView}
use Rattle.view_domain.specs.Received.{IsDone}
use Rattle.machine.specs.Held.{IsViewOf, IsAsk, AreQueued, runs}
use Rattle.machine.specs.Turned.{IsViewTurn}
use Rattle.machine.proofs.Queued.{queued_pushed}
use Rattle.machine.proofs.StageTurns.{reader}
use Rattle.stage_domain.proofs.Starts.{running_whole}

abbrev node : View → Bool → Node View
node x b = record { is = x; runs = b }

-- it is still the shard of its view, and asks for keys of the view alone
record Stays (v : View) (d : Done) : Type 0 where
  plan : d.view.plan ≡ v.plan
  view : d.view.view ≡ v.view
  shard : d.view.shard ≡ v.shard
  asks : Each (Each (λ (a : Ask). view_in a.tag ≡ v.view)) d.requests

one_or_none : (P : Ask → Type 0) (b : Bool) (xs : List Ask) → Each P xs → Each P (cond b xs [])
one_or_none P true xs h = h
one_or_none P false xs h = tt

abbrev IsOwn : View → Ask → Type 0
IsOwn v a = view_in a.tag ≡ v.view

asks_own : (v : View) (ks : List Datum) → Each (IsOwn v) (map (ask v) ks)
asks_own v ks = each_map_of (IsOwn v) (ask v) ks (λ k. refl)

none_own : (v : View) (ns : List ℕ) → Each (Each (IsOwn v)) (none_of ns)
none_own v ns = each_map_of (Each (IsOwn v)) (λ n. []) ns (λ n. tt)

stays : (v : View) (m : ToView) → Stays v (step v m)
stays v (packet s p) =
    let asks = map (ask v) (again s p.evicts v.keys) in
    record {
      plan = refl;
      view = refl;
      shard = refl;
      asks = each_map_of (Each (IsOwn v)) (λ r. cond (r == s) asks []) (range_with_len 0 v.plan.stages) (λ r. one_or_none (IsOwn v) (r == s) asks (asks_own v (again s p.evicts v.keys)));
    }
stays v (want k) = by (is_hole (v.keys.at k))
  where
    by : (b : Bool) → Stays v (cond b (begins v k) (quiet v v.keys))
    by true = record { plan = refl; view = refl; shard = refl; asks = each_map_of (Each (IsOwn v)) (λ r. ask v k ∷ []) (range_with_len 0 v.plan.stages) (λ r. (refl, tt)) }
    by false = record { plan = refl; view = refl; shard = refl; asks = none_own v (range_with_len 0 v.plan.stages) }
stays v (order k) = record { plan = refl; view = refl; shard = refl; asks = none_own v (range_with_len 0 v.plan.stages) }

each_or : {X : Type 0} (P : X → Type 0) (xss : List (List X)) → Each (Each P) xss → (r : ℕ) → Each P (slice_index_or xss r [])
each_or P [] h r = tt
each_or P (xs ∷ xss) h zero = h.0
each_or P (xs ∷ xss) h (suc r) = each_or P xss h.1 r

own_asks : (p : Layout) (v : View) → v.view < length p.views → (xs : List Ask) → Each (IsOwn v) xs → Each (λ (a : Ask). view_in a.tag < length p.views) xs
own_asks p v lt [] h = tt
own_asks p v lt (a ∷ xs) h = (subst (λ i. i < length p.views) (sym h.0) lt, own_asks p v lt xs h.1)

pub view_turn : (r : ℕ) (old new : Domain) (m : ToView) (out : OutboxView) (before after : List (List (List Ask))) → IsViewOf old.plan r old → IsDone m (step (view_of old) m) old out new → after ≡ pushed r (packets_on out.requests) before
    → IsViewTurn old.plan r (step (view_of old) m) before new after
view_turn r old new m out before after is done put =
    let stay = stays (view_of old) m in
    let plan : new.plan ≡ old.plan = ap (λ (x : View). x.plan) done.view ∙ stay.plan in
    let view : new.view ≡ old.view = ap (λ (x : View). x.view) done.view ∙ stay.view in
    let shard : new.shard ≡ old.shard = ap (λ (x : View). x.shard) done.view ∙ stay.shard in
    let sent : after ≡ pushed r (step (view_of old) m).requests before = put ∙ ap (λ xss. pushed r xss before) done.requests in
    record {
      node = ap (λ b. node (view_of new) b) (ap runs done.running) ∙ ap (λ x. node x true) done.view;
      is = record {
        plan = plan;
        reader = is.reader ∙ ap Some (ap (λ i. reader i old.shard) (sym view) ∙ ap (λ j. reader new.view j) (sym shard));
        place = subst (λ i. i < length old.plan.views) (sym view) is.place;
        whole = running_whole new.mode done.running;
      };
      sent = sent;
      queued = λ h. subst (AreQueued (IsAsk old.plan)) (sym sent)
          (queued_pushed (IsAsk old.plan) r (step (view_of old) m).requests before h
          (λ s. own_asks old.plan (view_of old) is.place (slice_index_or (step (view_of old) m).requests s []) (each_or (IsOwn (view_of old)) (step (view_of old) m).requests stay.asks s)));
    }
