-- Messages of base shards and stage shards: all that holds goes on holding, and the history stays.
use Rattle.std.proofs.Common.{◌≡◌, ℕ, Bool, true, false, cond, List, [], ◌∷◌, ◌++◌, length, slice_get, slice_set, slice_index_or, Option, Some, None, refl, ap, sym, ◌∙◌, subst, append-nil}
use Rattle.row.specs.Cells.{Datum}
use Rattle.plan.specs.Layouts.{Layout}
use Rattle.protocol.specs.Bases as base
use Rattle.protocol.specs.BaseSteps as on_base
use Rattle.protocol.specs.Stages as stage
use Rattle.protocol.specs.StageSteps as on_stage
use Rattle.model.specs.Logs.{Change}
use Rattle.model.specs.Places.{source_at}
use Rattle.model.specs.Histories.{Item}
use mathlib.Core.List.{IsPrefix}
use Rattle.packet.specs.Readers.{readers}
use Rattle.packet.specs.Messages.{Ask, BasePacketView, Mark}
use Rattle.protocol.specs.Bases.{Base}
use Rattle.protocol.specs.Stages.{Stage}
use Rattle.protocol.specs.Worlds.{Node, World}
use Rattle.protocol.specs.Events.{Event}
use Rattle.protocol.specs.Theorem.{AreEnded, AreFences}
use Rattle.protocol.specs.WorldSteps.{Did, base_takes, stage_takes, base_did, stage_did, runs_on, base_came, ask_came, base_ask_came, ended_by, marked}
use Rattle.protocol.specs.Edges.{with_queue, queue}
use Rattle.protocol.proofs.Wired.{Good, IsHistory, IsPast, Edges, Led, Three, source_logs, AreBases}
use Rattle.protocol.proofs.Lists.{each_at, set_same, set_none, pair_at, pair_none}
use Rattle.protocol.proofs.EdgeLaws.{edges_lost, edges_taken, edges_same, three_next}
use Rattle.protocol.proofs.Parts.{HasSent, request_sent, marker_sent, line_taken, line_request, line_order}
use Rattle.protocol.proofs.Moves.{wired_base, wired_stage, wired_edges, with_edges}
use Rattle.protocol.proofs.Runs.{ran, GoesOn}
use Rattle.protocol.proofs.Leading.{IsBaseRun}

-- it holds of a further world
pub record Kept (p : Layout) (past : List Event) (h : List Item) (w : World) : Type 0 where
  pub plan : w.plan ≡ p
  pub good : Good w past h

-- an event has told of some fences, or of nothing
pub record Ends (p : Layout) (past : List Event) (h : List Item) (d : Did) : Type 0 where
  pub is : List Item
  pub kept : Kept p past (h ++ is) d.world
  pub ended : AreEnded p h d.reply is
  pub fences : AreFences p h (ended_by d.reply) is

pub silent : (p : Layout) (past : List Event) (h : List Item) (d : Did) → Kept p past h d.world → AreEnded p h d.reply [] → AreFences p h (ended_by d.reply) [] → Ends p past h d
silent p past h d k e f = record { is = []; kept = subst (λ l. Kept p past l d.world) (sym (append-nil h)) k; ended = e; fences = f }

module _ {X : Type 0} where
  abbrev node : X → Bool → Node X
  node x b = record { is = x; runs = b }

  -- a node that runs is put back as it was
  pub put_back : (nodes : List (Node X)) (i : ℕ) (n : Node X) (x : X) → slice_get nodes i ≡ Some n → n.runs ≡ true → x ≡ n.is → runs_on i x nodes ≡ nodes
  put_back nodes i n x at r e = set_same nodes i (record { is = x; runs = true }) (at ∙ ap Some (same e))
    where
      same : x ≡ n.is → n ≡ node x true
      same e = ap (λ b. node n.is b) r ∙ ap (λ y. node y true) (sym e)

-- ---- base shards
pub took_base : (w : World) (past : List Event) (h : List Item) (b : ℕ) (n : Node Base) (d : base.Done) → slice_get w.bases b ≡ Some n → n.runs ≡ true → d.base ≡ n.is → HasSent n.is.plan n.is.entries n.is.entries d.sent
    → Good w past h → Good (base_did w b d) past h
took_base w past h b n d at r e s g =
    let same = put_back w.bases b n d.base at r e in
    record {
      wired = wired_base w w.callers b n d at g.wired
          (λ j is. subst (λ f. HasSent w.plan n.is.entries f d.sent) (ap (λ (x : Base). x.entries) (sym e)) (subst (λ p. HasSent p n.is.entries n.is.entries d.sent) (g.wired.bases b n at).plan s))
          (subst (AreBases w.plan w.callers) (sym same) g.wired.bases) g.wired.callers g.wired.sixteen;
      history = subst (λ bs. IsHistory w.plan bs w.callers h) (sym same) g.history;
      events = subst (λ bs. IsPast w.plan bs w.callers past) (sym same) g.events;
    }

pub takes_request : (w : World) (past : List Event) (h : List Item) (b : ℕ) (o : Option (Node Base)) (s : ℕ) (a : Ask) → slice_get w.bases b ≡ o → Good w past h → Kept w.plan past h (base_takes w b o (base.request s a))
takes_request w past h b None s a at g = record { plan = refl; good = g }
takes_request w past h b (Some n) s a at g = by n.runs refl
  where
    by : (r : Bool) → n.runs ≡ r → Kept w.plan past h (cond r (base_did w b (on_base.step n.is (base.request s a))) w)
    by true r = record { plan = refl; good = took_base w past h b n (on_base.step n.is (base.request s a)) at r refl (request_sent n.is s a) g }
    by false r = record { plan = refl; good = g }

pub takes_marker : (w : World) (past : List Event) (h : List Item) (b : ℕ) (o : Option (Node Base)) (m : Mark) → slice_get w.bases b ≡ o → Good w past h → Kept w.plan past h (base_takes w b o (base.marker m))
takes_marker w past h b None m at g = record { plan = refl; good = g }
takes_marker w past h b (Some n) m at g = by n.runs refl
  where
    by : (r : Bool) → n.runs ≡ r → Kept w.plan past h (cond r (base_did w b (on_base.step n.is (base.marker m))) w)
    by true r = record { plan = refl; good = took_base w past h b n (on_base.step n.is (base.marker m)) at r refl (marker_sent n.is m) g }
    by false r = record { plan = refl; good = g }

pub kept_marked : (p : Layout) (past : List Event) (h : List Item) (bs : List ℕ) (m : Mark) (w : World) → Kept p past h w → Kept p past h (marked w bs m)
kept_marked p past h [] m w k = k
kept_marked p past h (b ∷ bs) m w k =
    let t = takes_marker w past h b (slice_get w.bases b) m refl k.good in
    kept_marked p past h bs m (base_takes w b (slice_get w.bases b) (base.marker m)) (record { plan = t.plan ∙ k.plan; good = t.good })

-- ---- stage shards
-- a request or an order
took_stage : (w : World) (past : List Event) (h : List Item) (fv : List (List (List Ask))) (s : ℕ) (n : Node Stage) (m : stage.ToStage) → slice_get w.stages s ≡ Some n → n.runs ≡ true → GoesOn n.is m → (on_stage.step n.is m).stage.line ≡ n.is.line
    → Good w past h → Good (stage_did (with_edges w w.to_stage w.to_view fv w.to_base) s (on_stage.step n.is m)) past h
took_stage w past h fv s n m at r goes line g =
    let k = ran n.is m goes in
    let plan = each_at (λ (n : Node Stage). n.is.plan ≡ w.plan) w.stages s n at g.wired.planned in
    record {
      wired = wired_stage w w.to_stage fv w.to_base s n (on_stage.step n.is m) at g.wired (k.plan ∙ plan) k.runs (k.size ∙ ap (λ p. length (readers p)) plan)
          (edges_same IsBaseRun IsPrefix (λ (s : Stage). s.line) w.stages w.to_stage (source_logs w.plan w.bases) s n at (on_stage.step n.is m).stage r line g.wired.lines);
      history = g.history;
      events = g.events;
    }

with_asks : (w : World) (past : List Event) (h : List Item) (fv tb : List (List (List Ask))) → Good w past h → Good (with_edges w w.to_stage w.to_view fv tb) past h
with_asks w past h fv tb g = record { wired = wired_edges w w.to_stage w.to_view fv tb g.wired g.wired.lines g.wired.cuts; history = g.history; events = g.events }

pub takes_order : (w : World) (past : List Event) (h : List Item) (s : ℕ) (o : Option (Node Stage)) (x : Datum) → slice_get w.stages s ≡ o → Good w past h → Kept w.plan past h (stage_takes w s o (stage.order x))
takes_order w past h s None x at g = record { plan = refl; good = g }
takes_order w past h s (Some n) x at g = by n.runs refl
  where
    by : (r : Bool) → n.runs ≡ r → Kept w.plan past h (cond r (stage_did w s (on_stage.step n.is (stage.order x))) w)
    by true r = record { plan = refl; good = took_stage w past h w.from_view s n (stage.order x) at r tt (line_order n.is x) g }
    by false r = record { plan = refl; good = g }

takes_ask : (w : World) (past : List Event) (h : List Item) (fv : List (List (List Ask))) (s : ℕ) (o : Option (Node Stage)) (a : Ask) → slice_get w.stages s ≡ o → Good w past h
    → Kept w.plan past h (stage_takes (with_edges w w.to_stage w.to_view fv w.to_base) s o (stage.request a))
takes_ask w past h fv s None a at g = record { plan = refl; good = with_asks w past h fv w.to_base g }
takes_ask w past h fv s (Some n) a at g = by n.runs refl
  where
    by : (r : Bool) → n.runs ≡ r → Kept w.plan past h (cond r (stage_did (with_edges w w.to_stage w.to_view fv w.to_base) s (on_stage.step n.is (stage.request a))) (with_edges w w.to_stage w.to_view fv w.to_base))
    by true r = record { plan = refl; good = took_stage w past h fv s n (stage.request a) at r tt (line_request n.is a) g }
    by false r = record { plan = refl; good = with_asks w past h fv w.to_base g }

-- a packet
next_packet : (f z : List Change) (k : BasePacketView) (ks : List BasePacketView) → IsBaseRun f (k ∷ ks) z → IsBaseRun k.to ks z
next_packet f z k ks l = l.2

takes_packet : (w : World) (past : List Event) (h : List Item) (j s : ℕ) (o : Option (Node Stage)) (k : BasePacketView) (ks : List BasePacketView) → slice_get w.stages s ≡ o → queue w.to_stage s j ≡ k ∷ ks → Good w past h
    → Kept w.plan past h (stage_takes (with_edges w (with_queue w.to_stage s j ks) w.to_view w.from_view w.to_base) s o (stage.packet j k))
takes_packet w past h j s None k ks at q g =
    let none = pair_none (λ (n : Node Stage) inbox. Three (Led IsBaseRun IsPrefix n.runs) n.is.line inbox (source_logs w.plan w.bases)) w.stages w.to_stage s at g.wired.lines in
    let same = set_none w.to_stage s (slice_set (slice_index_or w.to_stage s []) j ks) none in
    record {
      plan = refl;
      good = record {
        wired = wired_edges w (with_queue w.to_stage s j ks) w.to_view w.from_view w.to_base g.wired
            (subst (λ ts. Edges IsBaseRun IsPrefix (λ (s : Stage). s.line) w.stages ts (source_logs w.plan w.bases)) (sym same) g.wired.lines) g.wired.cuts;
        history = g.history;
        events = g.events;
      };
    }
takes_packet w past h j s (Some n) k ks at q g = by n.runs refl
  where
    by : (r : Bool) → n.runs ≡ r → Kept w.plan past h (cond r (stage_did (with_edges w (with_queue w.to_stage s j ks) w.to_view w.from_view w.to_base) s (on_stage.step n.is (stage.packet j k))) (with_edges w (with_queue w.to_stage s j ks) w.to_view w.from_view w.to_base))
    by false r = record {
      plan = refl;
      good = record {
        wired = wired_edges w (with_queue w.to_stage s j ks) w.to_view w.from_view w.to_base g.wired
            (edges_lost IsBaseRun IsPrefix (λ (s : Stage). s.line) w.stages w.to_stage (source_logs w.plan w.bases) s n at j ks r g.wired.lines) g.wired.cuts;
        history = g.history;
        events = g.events;
      };
    }
    by true r =
        let inbox = slice_index_or w.to_stage s [] in
        let t = subst (λ b. Three (Led IsBaseRun IsPrefix b) n.is.line inbox (source_logs w.plan w.bases)) r
        (pair_at (λ (n : Node Stage) inbox. Three (Led IsBaseRun IsPrefix n.runs) n.is.line inbox (source_logs w.plan w.bases)) w.stages w.to_stage s n [] at g.wired.lines) in
        let x = three_next IsBaseRun IsPrefix n.is.line inbox (source_logs w.plan w.bases) j k ks q t in
        let l = x.3 in
        let from : slice_get n.is.line j ≡ Some k.from = x.2 ∙ ap Some (sym l.0) in
        let d = ran n.is (stage.packet j k) (record { from = from; grows = l.1.grows }) in
        let plan = each_at (λ (n : Node Stage). n.is.plan ≡ w.plan) w.stages s n at g.wired.planned in
        record {
          plan = refl;
          good = record {
            wired = wired_stage w (with_queue w.to_stage s j ks) w.from_view w.to_base s n (on_stage.step n.is (stage.packet j k)) at g.wired (d.plan ∙ plan) d.runs (d.size ∙ ap (λ p. length (readers p)) plan)
                (edges_taken IsBaseRun IsPrefix (λ (s : Stage). s.line) w.stages w.to_stage (source_logs w.plan w.bases) s n at (λ (k : BasePacketView). k.to) next_packet j k ks (on_stage.step n.is (stage.packet j k)).stage r q
                (line_taken n.is j k from l.1.piece l.1.marker) g.wired.lines);
            history = g.history;
            events = g.events;
          };
        }

-- ---- three of the four kinds of delivery
pub base_comes : (w : World) (past : List Event) (h : List Item) (j s : ℕ) (q : List BasePacketView) → queue w.to_stage s j ≡ q → Good w past h → Ends w.plan past h (base_came w j s q)
base_comes w past h j s [] e g = silent w.plan past h (base_came w j s []) (record { plan = refl; good = g }) refl refl
base_comes w past h j s (k ∷ ks) e g = silent w.plan past h (base_came w j s (k ∷ ks)) (takes_packet w past h j s (slice_get w.stages s) k ks refl e g) refl refl

pub ask_comes : (w : World) (past : List Event) (h : List Item) (r s : ℕ) (q : List Ask) → Good w past h → Ends w.plan past h (ask_came w r s q)
ask_comes w past h r s [] g = silent w.plan past h (ask_came w r s []) (record { plan = refl; good = g }) refl refl
ask_comes w past h r s (a ∷ rest) g = silent w.plan past h (ask_came w r s (a ∷ rest)) (takes_ask w past h (with_queue w.from_view s r rest) s (slice_get w.stages s) a refl g) refl refl

pub base_ask_comes : (w : World) (past : List Event) (h : List Item) (s j : ℕ) (q : List Ask) → Good w past h → Ends w.plan past h (base_ask_came w s j q)
base_ask_comes w past h s j [] g = silent w.plan past h (base_ask_came w s j []) (record { plan = refl; good = g }) refl refl
base_ask_comes w past h s j (a ∷ rest) g =
    let v = with_edges w w.to_stage w.to_view w.from_view (with_queue w.to_base j s rest) in
    silent w.plan past h (base_ask_came w s j (a ∷ rest)) (takes_request v past h (source_at w.plan j) (slice_get w.bases (source_at w.plan j)) s a refl (with_asks w past h w.from_view (with_queue w.to_base j s rest) g)) refl refl
