-- A message to a stage shard: where it and its packets stand then.
use Rattle.std.proofs.Common.{Bool, ◌≡◌, ℕ, zero, suc, ◌<◌, true, List, [], ◌∷◌, map, Some, slice_get, slice_index_or, refl, ap, sym, ◌∙◌, subst}
use Rattle.row.specs.Bags.{Each}
use Rattle.plan.specs.Layouts.{Layout}
use Rattle.packet.specs.Messages.{Ask, StagePacketView}
use Rattle.packet.specs.Outboxes.{packets_on}
use Rattle.packet.specs.Readers.{Reader, readers}
use Rattle.packet.specs.Truth.{Pointwise, sent_of}
use Rattle.protocol.specs.Edges.{pushed}
use Rattle.protocol.specs.Stages.{Stage, ToStage}
use Rattle.protocol.specs.StageSteps.{step}
use Rattle.stage_domain.specs.Domains.{Domain, stage_of, IsDone}
use Rattle.stage_steps.specs.Outboxes.{OutboxView}
use Rattle.stage_steps.specs.Shards.{IsTo}
use Rattle.protocol.specs.Worlds.{Node}
use Rattle.protocol.proofs.Lists.{each_to}
use Rattle.stage_domain.proofs.Starts.{running_whole}
use Rattle.machine.specs.Held.{IsStageOf, IsSentBy, IsStageAsk, AreQueued, runs}
use Rattle.machine.specs.Turned.{IsStageTurn}
use Rattle.machine.proofs.Queued.{queued_pushed, map_pushed}

abbrev pub reader : ℕ → ℕ → Reader
reader i j = record { view = i; shard = j }

abbrev node : Stage → Bool → Node Stage
node x b = record { is = x; runs = b }

-- the packets to a reader stand at its place
at_place : {X Y : Type 0} (To : X → Y → Type 0) (Is : ℕ → Y → Type 0) (rs : List X) (xss : List (List Y)) → Pointwise (λ r xs. Each (To r) xs) rs xss → ((r : ℕ) (x : X) → slice_get rs r ≡ Some x → (y : Y) → To x y → Is r y)
    → (r : ℕ) → Each (Is r) (slice_index_or xss r [])
at_place To Is [] [] h f r = tt
at_place To Is [] (xs ∷ xss) h f r = absurd h
at_place To Is (x ∷ rs) [] h f r = absurd h
at_place To Is (x ∷ rs) (xs ∷ xss) h f zero = each_to (To x) (Is zero) (f zero x refl) xs h.0
at_place To Is (x ∷ rs) (xs ∷ xss) h f (suc r) = at_place To (λ r. Is (suc r)) rs xss h.1 (λ r. f (suc r)) r

sent_by : (p : Layout) (s : ℕ) → s < p.stages → (r : ℕ) (x : Reader) → slice_get (readers p) r ≡ Some x → (y : StagePacketView) → IsTo p s x y → IsSentBy p r s y
sent_by p s lt r x at y to = record { plan = to.plan; stage = to.stage; place = lt; reader = at ∙ ap Some (same x y to.view to.shard) }
  where
    same : (x : Reader) (y : StagePacketView) → y.view ≡ x.view → y.shard ≡ x.shard → x ≡ record { view = y.view; shard = y.shard }
    same x y e f = ap (λ i. reader i x.shard) (sym e) ∙ ap (λ j. reader y.view j) (sym f)

-- what holds of all holds of each
all_hold : {X : Type 0} (P : X → Type 0) → ((x : X) → P x) → (xs : List X) → Each P xs
all_hold P h [] = tt
all_hold P h (x ∷ xs) = (h x, all_hold P h xs)

pub stage_turn : (s : ℕ) (old new : Domain) (m : ToStage) (out : OutboxView) (before after : List (List (List StagePacketView))) (asked asks : List (List (List Ask))) → IsStageOf old.plan s old → IsDone (step (stage_of old) m) out new → new.plan ≡ old.plan → new.shard ≡ old.shard → after ≡ pushed s (packets_on out.packets) before
    → asks ≡ pushed s (packets_on out.requests) asked → IsStageTurn old.plan s (step (stage_of old) m) before asked new after asks
stage_turn s old new m out before after asked asks is done plan same put added =
    let shard : new.shard ≡ s = same ∙ is.shard in
    let to : Pointwise (λ r xs. Each (IsTo old.plan s r) xs) (readers old.plan) (packets_on out.packets) = rw (← plan, ← shard) done.put.to in
    record {
      node = ap (λ b. node (stage_of new) b) (ap runs done.running) ∙ ap (λ x. node x true) done.put.stage;
      is = record { plan = plan; shard = shard; place = is.place; whole = running_whole new.mode done.running };
      sent = ap (map (map (map sent_of))) put ∙ (map_pushed sent_of s (packets_on out.packets) before ∙ ap (λ xss. pushed s xss (map (map (map sent_of)) before)) done.put.sent);
      queued = λ h. subst (AreQueued (IsSentBy old.plan)) (sym put)
          (queued_pushed (IsSentBy old.plan) s (packets_on out.packets) before h (at_place (IsTo old.plan s) (λ r. IsSentBy old.plan r s) (readers old.plan) (packets_on out.packets) to (sent_by old.plan s is.place)));
      requests = added ∙ ap (λ xss. pushed s xss asked) done.put.asks;
      asking = λ h. subst (AreQueued (IsStageAsk old.plan)) (sym added)
          (queued_pushed (IsStageAsk old.plan) s (packets_on out.requests) asked h (λ r. all_hold (IsStageAsk old.plan r s) (λ a. is.place) (slice_index_or (packets_on out.requests) r [])));
    }
