-- A message to a base shard: where it and its packets stand then.
use Rattle.std.proofs.Common.{Bool, true, false, not, cond, ◌==◌, nat_lt, ◌≡◌, ◌≢◌, ℕ, zero, suc, ◌+◌, List, [], ◌∷◌, map, length, Option, Some, None, inl, inr, slice_index_or, refl, ap, sym, ◌∙◌, subst, arith}
use Rattle.std.specs.List.{range_with_len}
use Rattle.row.specs.Bags.{Each}
use Rattle.row.specs.declared.refused.Refused.{Refused}
use Rattle.row.specs.declared.refused.Refused.TheVariants.{NoMemory}
use Rattle.plan.specs.Layouts.{SideLayout}
use Rattle.model.specs.Fronts.{LogView}
use Rattle.model.specs.Histories.{Author}
use Rattle.model.specs.Legal.{limit, most_sessions}
use Rattle.model.specs.Logs.{Change}
use Rattle.model.specs.Places.{sources, layout_of}
use Rattle.model.specs.Refusals.{refusal}
use Rattle.packet.specs.Messages.{BasePacketView, none_of}
use Rattle.packet.specs.Outboxes.{OutboxView, packets_on}
use Rattle.packet.specs.Readers.{side_of}
use Rattle.protocol.specs.Bases.{Base, ToBase, write, request, marker, declined, next_of}
use Rattle.protocol.specs.BaseSteps.{step, quiet, decided, to_stages, entry_packet, still, piece_for}
use Rattle.protocol.specs.Edges.{source_place}
use Rattle.protocol.specs.Worlds.{Node}
use Rattle.protocol.specs.WorldSteps.{base_sent}
use Rattle.protocol.proofs.Lists.{or_of}
use Rattle.protocol.proofs.Spots.{found, same_is, position_small}
use Rattle.base_domain.specs.Domains.{Domain}
use Rattle.base_domain.specs.Received.{base_at, verdict_of, Goes, IsDone, Stays}
use Rattle.stage_steps.specs.Shards.{IsFrom}
use Rattle.machine.specs.Held.{AreQueued}
use Rattle.machine.specs.Turned.{IsBaseTurn}
use Rattle.machine.proofs.Queued.{queued_pushed}
use Rattle.row.proofs.BagLemmas.{Each-weaker}

abbrev node : Base → Bool → Node Base
node x b = record { is = x; runs = b }

-- ---- its packets are from it, each to the stage shard of its place
record IsOf (b : Base) (s : ℕ) (k : BasePacketView) : Type 0 where
  plan : k.plan ≡ b.plan
  base : k.base ≡ b.base
  stage : k.stage ≡ s

abbrev AreFrom : Base → List (List BasePacketView) → Type 0
AreFrom b sent = (s : ℕ) → Each (IsOf b s) (slice_index_or sent s [])

ranged : {X : Type 0} (P : ℕ → List X → Type 0) (f : ℕ → List X) (a n : ℕ) → ((k : ℕ) → P k (f (a + k))) → ((k : ℕ) → P k []) → (s : ℕ) → P s (slice_index_or (map f (range_with_len a n)) s [])
ranged P f a zero h none s = none s
ranged P f a (suc n) h none zero = subst (λ x. P zero (f x)) (omega (arith)) (h zero)
ranged P f a (suc n) h none (suc s) = ranged (λ k. P (suc k)) f (a + 1) n (λ k. subst (λ x. P (suc k) (f x)) (omega (arith)) (h (suc k))) (λ k. none (suc k)) s

from_range : (b : Base) (f : ℕ → List BasePacketView) → ((s : ℕ) → Each (IsOf b s) (f s)) → AreFrom b (map f (range_with_len 0 b.plan.stages))
from_range b f h s = ranged (λ s xs. Each (IsOf b s) xs) f 0 b.plan.stages (λ k. subst (λ x. Each (IsOf b k) (f x)) (omega (arith)) (h k)) (λ k. tt) s

none_from : (b : Base) → AreFrom b (none_of (range_with_len 0 b.plan.stages))
none_from b = from_range b (λ r. []) (λ s. tt)

to_stages_from : (b : Base) (side : Option SideLayout) (f : SideLayout → ℕ → BasePacketView) → ((side : SideLayout) (s : ℕ) → IsOf b s (f side s)) → AreFrom b (to_stages b.plan side f)
to_stages_from b None f h = none_from b
to_stages_from b (Some side) f h = from_range b (λ s. f side s ∷ []) (λ s. (h side s, tt))

decided_from : (b : Base) (s m : ℕ) (e : Change) (r : Option Refused) → AreFrom b (decided b s m e r).sent
decided_from b s m e None = to_stages_from b (side_of b.plan b.base) (entry_packet b e) (λ side s. record { plan = refl; base = refl; stage = refl })
decided_from b s m e (Some r) = none_from b

one_from : (b : Base) (r s : ℕ) (t : Bool) (k : BasePacketView) → (r == s) ≡ t → IsOf b s k → Each (IsOf b r) (cond t (k ∷ []) [])
one_from b r s true k e is = (subst (λ x. IsOf b x k) (sym (same_is r s e)) is, tt)
one_from b r s false k e is = tt

sent_from : (b : Base) (m : ToBase) → AreFrom b (step b m).sent
sent_from b (write s m e) = by (nat_lt m (next_of s b.authors))
  where
    by : (t : Bool) → AreFrom b (cond t (quiet b None) (decided b s m e (refusal (layout_of b.plan b.base).key limit b.entries e))).sent
    by true = none_from b
    by false = decided_from b s m e (refusal (layout_of b.plan b.base).key limit b.entries e)
sent_from b (request s a) =
    let k = still b s (Some (piece_for b s a)) None in
    from_range b (λ r. cond (r == s) (k ∷ []) []) (λ r. one_from b r s (r == s) k refl (record { plan = refl; base = refl; stage = refl }))
sent_from b (marker m) = to_stages_from b (side_of b.plan b.base) (λ side s. still b s None (Some m)) (λ side s. record { plan = refl; base = refl; stage = refl })

-- ---- they go on the queues of the source that it is
from_source : (b : Base) (j : ℕ) → source_place b.plan b.base ≡ Some j → (s : ℕ) (k : BasePacketView) → IsOf b s k → IsFrom b.plan s j k
from_source b j at s k is =
    let f = found (λ c. c == b.base) (sources b.plan) j at in
    record {
      plan = is.plan;
      stage = is.stage;
      source = position_small (λ c. c == b.base) (sources b.plan) j at;
      base = is.base ∙ (sym (same_is f.it b.base f.passes) ∙ sym (or_of (sources b.plan) j f.it 0 f.at));
    }

queued_from : (b : Base) (m : ToBase) (o : Option ℕ) → source_place b.plan b.base ≡ o → (q : List (List (List BasePacketView))) → AreQueued (IsFrom b.plan) q → AreQueued (IsFrom b.plan) (base_sent o (step b m).sent q)
queued_from b m None at q h = h
queued_from b m (Some j) at q h =
    queued_pushed (IsFrom b.plan) j (step b m).sent q h
    (λ s. Each-weaker (IsOf b s) (λ k. IsFrom b.plan s j k) (from_source b j at s) (slice_index_or (step b m).sent s []) (sent_from b m s))

-- ---- the turn
module _ {F : Type 0} (log : F → LogView) (authors : F → List Author) where
  turn_done : (old new : Domain F) (m : ToBase) (out : OutboxView F) (before after : List (List (List BasePacketView))) → length old.next ≡ most_sessions → IsDone log authors m old (step (base_at log authors old) m) out new → Stays log old new
      → after ≡ base_sent (source_place (log old.front).plan (log old.front).base) (packets_on out.edges) before
      → IsBaseTurn log authors (log old.front).plan (log old.front).base (step (base_at log authors old) m) before new after
  turn_done old new m out before after sixteen done stay put =
      let b = base_at log authors old in
      let sent : after ≡ base_sent (source_place b.plan b.base) (step b m).sent before = put ∙ ap (λ xss. base_sent (source_place b.plan b.base) xss before) done.sent in
      record {
        node = ap (λ t. node (base_at log authors new) (not t)) done.running ∙ ap (λ x. node x true) done.base;
        is = record { plan = stay.plan; base = stay.base; sessions = stay.sessions ∙ sixteen };
        sent = sent;
        queued = λ h. subst (AreQueued (IsFrom b.plan)) (sym sent) (queued_from b m (source_place b.plan b.base) refl before h);
      }

  pub base_turn : (old new : Domain F) (m : ToBase) (out : OutboxView F) (before after : List (List (List BasePacketView))) → length old.next ≡ most_sessions → Goes log authors m old (step (base_at log authors old) m) out new → (verdict_of out.reply ≢ Some (declined NoMemory))
      → Stays log old new → after ≡ base_sent (source_place (log old.front).plan (log old.front).base) (packets_on out.edges) before
      → IsBaseTurn log authors (log old.front).plan (log old.front).base (step (base_at log authors old) m) before new after
  base_turn old new m out before after sixteen (inl done) not stay put = turn_done old new m out before after sixteen done stay put
  base_turn old new m out before after sixteen (inr refused) not stay put = absurd (not refused.reply)

  pub base_reply : (old new : Domain F) (m : ToBase) (out : OutboxView F) → Goes log authors m old (step (base_at log authors old) m) out new → (verdict_of out.reply ≢ Some (declined NoMemory)) → verdict_of out.reply ≡ (step (base_at log authors old) m).reply
  base_reply old new m out (inl done) not = done.reply
  base_reply old new m out (inr refused) not = absurd (not refused.reply)
