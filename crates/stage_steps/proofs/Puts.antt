-- What is put out, one part of a step after the other.
use Rattle.std.proofs.Common.{◌≡◌, ℕ, List, [], ◌∷◌, map, refl, ap, sym, ◌∙◌, arith}
use Rattle.std.proofs.lemmas.List.{length-map, map-append}
use Rattle.row.specs.Bags.{Each}
use Rattle.plan.specs.Layouts.{Layout}
use Rattle.model.specs.Places.{sources}
use Rattle.packet.specs.Messages.{Ask, StagePacketView, none_of}
use Rattle.packet.specs.Outboxes.{EdgeView, packets_on}
use Rattle.packet.specs.Readers.{Reader, readers}
use Rattle.packet.specs.Truth.{Pointwise, sent_of}
use Rattle.protocol.specs.Stages.{Done}
use Rattle.protocol.specs.StageSteps.{append_each, quiet}
use Rattle.stage_steps.specs.Outboxes.{AreEdges, OutboxView}
use Rattle.stage_steps.specs.Shards.{IsPut, IsTo, Shard, stage_of}
use Rattle.stage_steps.proofs.Appends.{append_nothing}
use Rattle.plan.proofs.OwnTexts.{each_join}

map_append_each : {X Y : Type 0} (f : X → Y) (xss yss : List (List X)) → map (map f) (append_each xss yss) ≡ append_each (map (map f) xss) (map (map f) yss)
map_append_each f [] yss = refl
map_append_each f (xs ∷ xss) [] = refl
map_append_each f (xs ∷ xss) (ys ∷ yss) = λ i. map-append f xs ys i ∷ map_append_each f xss yss i

pointwise_append : {X Y : Type 0} (P : X → Y → Type 0) (rs : List X) (xss yss : List (List Y)) → Pointwise (λ r xs. Each (P r) xs) rs xss → Pointwise (λ r xs. Each (P r) xs) rs yss → Pointwise (λ r xs. Each (P r) xs) rs (append_each xss yss)
pointwise_append P [] [] [] h k = tt
pointwise_append P [] [] (ys ∷ yss) h k = absurd k
pointwise_append P [] (xs ∷ xss) yss h k = absurd h
pointwise_append P (r ∷ rs) [] yss h k = absurd h
pointwise_append P (r ∷ rs) (xs ∷ xss) [] h k = absurd k
pointwise_append P (r ∷ rs) (xs ∷ xss) (ys ∷ yss) h k = (each_join (P r) xs ys h.0 k.0, pointwise_append P rs xss yss h.1 k.1)

-- this part of a step, behind what was put out
abbrev pub after : Done → Done → Done
after d e = record { stage = e.stage; sent = append_each d.sent e.sent; requests = append_each d.requests e.requests }

module _ (d e : Done) (out new : OutboxView) (x y : Shard) (put : IsPut d out x) (plan : y.plan ≡ x.plan) (shard : y.shard ≡ x.shard) where
  pub put_after : (sent : List (List StagePacketView)) → stage_of y ≡ e.stage → packets_on new.packets ≡ append_each (packets_on out.packets) sent → map (map sent_of) sent ≡ e.sent → Pointwise (λ r xs. Each (IsTo x.plan x.shard r) xs) (readers x.plan) sent
      → packets_on new.requests ≡ append_each (packets_on out.requests) e.requests → IsPut (after d e) new y
  put_after sent stage told are to asked = record {
    stage = stage;
    sent = ap (map (map sent_of)) told ∙ (map_append_each sent_of (packets_on out.packets) sent ∙ λ i. append_each (put.sent i) (are i));
    asks = asked ∙ ap (λ rs. append_each rs e.requests) put.asks;
    to = rw (plan, shard, told) (pointwise_append (IsTo x.plan x.shard) (readers x.plan) (packets_on out.packets) sent put.to to);
  }

-- ---- nothing more
module _ (p : Layout) (out : OutboxView) (edges : AreEdges p out) where
  pub no_asks : append_each (packets_on out.requests) (none_of (sources p)) ≡ packets_on out.requests
  no_asks = append_nothing (packets_on out.requests) (sources p) (omega (arith, edges.sources, length-map out.requests (λ (e : EdgeView Ask). e.packets)))

  pub no_packets : append_each (packets_on out.packets) (none_of (readers p)) ≡ packets_on out.packets
  no_packets = append_nothing (packets_on out.packets) (readers p) (omega (arith, edges.readers, length-map out.packets (λ (e : EdgeView StagePacketView). e.packets)))

pub none_sent : (rs : List Reader) → map (map sent_of) (none_of rs) ≡ none_of rs
none_sent [] = refl
none_sent (r ∷ rs) = ap (λ l. [] ∷ l) (none_sent rs)

pub none_to : (p : Layout) (s : ℕ) (rs : List Reader) → Pointwise (λ r xs. Each (IsTo p s r) xs) rs (none_of rs)
none_to p s [] = tt
none_to p s (r ∷ rs) = (tt, none_to p s rs)

-- where only the state is another, and nothing is put out
pub put_quiet : (d e : Done) (out : OutboxView) (x y : Shard) → IsPut d out x → AreEdges x.plan out → y.plan ≡ x.plan → y.shard ≡ x.shard → e ≡ quiet (stage_of y) → IsPut (after d e) out y
put_quiet d e out x y put edges plan shard is =
    put_after d e out out x y put plan shard (none_of (readers x.plan)) (sym (ap (λ (e : Done). e.stage) is)) (sym (no_packets x.plan out edges)) (none_sent (readers x.plan) ∙ (ap (λ (q : Layout). none_of (readers q)) (sym plan) ∙ sym (ap (λ (e : Done). e.sent) is)))
    (none_to x.plan x.shard (readers x.plan)) (sym (no_asks x.plan out edges) ∙ ap (append_each (packets_on out.requests)) (ap (λ (q : Layout). none_of (sources q)) (sym plan) ∙ sym (ap (λ (e : Done). e.requests) is)))

-- where requests alone are put out
pub put_asked : (d e : Done) (out new : OutboxView) (x y : Shard) → IsPut d out x → AreEdges x.plan out → y.plan ≡ x.plan → y.shard ≡ x.shard → stage_of y ≡ e.stage → new.packets ≡ out.packets → e.sent ≡ none_of (readers x.plan) → packets_on new.requests ≡ append_each (packets_on out.requests) e.requests → IsPut (after d e) new y
put_asked d e out new x y put edges plan shard stage same none asked =
    put_after d e out new x y put plan shard (none_of (readers x.plan)) stage (ap packets_on same ∙ sym (no_packets x.plan out edges)) (none_sent (readers x.plan) ∙ sym none) (none_to x.plan x.shard (readers x.plan)) asked
