-- The phases of a step, one behind the other.
use Rattle.std.proofs.Common.{◌≡◌, ℕ, suc, Bool, true, false, cond, List, [], ◌∷◌, ◌++◌, map, length, slice_set, Option, Some, None, refl, ap, sym, ◌∙◌, subst, arith}
use Rattle.std.specs.Option.{is_some}
use Rattle.std.proofs.lemmas.List.{length-map}
use Rattle.row.specs.Cells.{Datum}
use Rattle.model.specs.Places.{sources}
use Rattle.partial.specs.States.{is_filled}
use Rattle.packet.specs.Keys.{Keys, open_at}
use Rattle.packet.specs.Marks.{come, complete, partly}
use Rattle.packet.specs.Messages.{Ask, BasePacketView, Mark, Piece, Sent, none_of}
use Rattle.packet.specs.Named.{for_each, named}
use Rattle.packet.specs.Outboxes.{packets_on}
use Rattle.packet.specs.Readers.{Reader, readers}
use Rattle.packet.specs.Truth.{sent_of}
use Rattle.protocol.specs.Stages.{Done, Stage, ToStage, keys_for, of_stage_key, order, packet, request}
use Rattle.protocol.specs.StageSteps.{append_each, goes, moved, next, notice, order_taken, packet_taken, piece_taken, put, quiet, takes, unknown, with_marker}
use Rattle.stage_steps.specs.Outboxes.{AreEdges, IsSilent, OutboxView}
use Rattle.stage_steps.specs.Shards.{IsPut, Shard, stage_of}
use Rattle.stage_steps.proofs.Puts.{after, put_quiet}
use Rattle.stage_steps.proofs.Begins.{as_many}
use Rattle.stage_steps.proofs.Puts.{none_sent, none_to}

-- ---- a silent outbox

pub put_start : (x : Shard) (out : OutboxView) → IsSilent out → AreEdges x.plan out → IsPut (quiet (stage_of x)) out x
put_start x out silent edges =
    let packets : packets_on out.packets ≡ none_of (readers x.plan) = silent.packets ∙ as_many out.packets (readers x.plan) edges.readers in
    record {
      stage = refl;
      sent = ap (map (map sent_of)) packets ∙ none_sent (readers x.plan);
      asks = silent.requests ∙ as_many out.requests (sources x.plan) edges.sources;
      to = rw packets (none_to x.plan x.shard (readers x.plan));
    }

-- ---- how many a phase puts out to
each_has : {X : Type 0} (f : Option (List Datum) → Reader → X) (asked : Option (List (List Datum))) (rs : List Reader) → length (for_each f asked rs) ≡ length rs
each_has f asked [] = refl
each_has f None (r ∷ rs) = ap suc (each_has f None rs)
each_has f (Some []) (r ∷ rs) = ap suc (each_has f (Some []) rs)
each_has f (Some (a ∷ others)) (r ∷ rs) = ap suc (each_has f (Some others) rs)

-- to each view shard and each source
record IsToAll (s : Stage) (d : Done) : Type 0 where
  pub sent : length d.sent ≡ length (readers s.plan)
  pub asks : length d.requests ≡ length (sources s.plan)

quiet_all : (s t : Stage) → t.plan ≡ s.plan → IsToAll s (quiet t)
quiet_all s t same = record { sent = length-map (readers t.plan) _ ∙ ap (λ p. length (readers p)) same; asks = length-map (sources t.plan) _ ∙ ap (λ p. length (sources p)) same }

put_all : (s t : Stage) (f : Option (List Datum) → Reader → List Sent) → t.plan ≡ s.plan → IsToAll s (put t f)
put_all s t f same = record { sent = each_has f t.asked (readers t.plan) ∙ ap (λ p. length (readers p)) same; asks = length-map (sources t.plan) _ ∙ ap (λ p. length (sources p)) same }

packet_all : (s : Stage) (j : ℕ) (k : BasePacketView) (piece : Option Piece) (marker : Option Mark) → IsToAll s (packet_taken s j k piece marker)
packet_all s j k None None = put_all s (record s { line = slice_set s.line j k.to }) (λ asked r. moved s.line (slice_set s.line j k.to) (named asked (keys_for s.plan (unknown s j k.changes) r)) ∷ []) refl
packet_all s j k None (Some m) = let marks = come (length (sources s.plan)) j m s.marks in put_all s (record s { marks = partly marks }) (λ asked r. map (with_marker s.line) (complete marks)) refl
packet_all s j k (Some piece) marker = quiet_all s (record s { right = piece_taken s j piece }) refl

order_all : (s : Stage) (o : Option Keys) (x : Datum) → IsToAll s (order_taken s o x)
order_all s None x = quiet_all s s refl
order_all s (Some keys) x = step (is_filled (keys.at x))
  where
    step : (b : Bool) → IsToAll s (cond b (goes s keys x) (quiet s))
    step true = put_all s (record s { right = Some (open_at x keys) }) (λ asked r. notice s.line (named asked (keys_for s.plan (of_stage_key s x) r))) refl
    step false = quiet_all s s refl

takes_all : (s : Stage) (m : ToStage) → IsToAll s (takes s m)
takes_all s (packet j k) = packet_all s j k k.piece k.marker
takes_all s (request a) = quiet_all s (record s { pending = s.pending ++ a ∷ [] }) refl
takes_all s (order x) = order_all s s.right x

first_of : {A X : Type 0} (as_ : List A) (xss : List (List X)) → length xss ≡ length as_ → append_each (none_of as_) xss ≡ xss
first_of [] [] e = refl
first_of [] (xs ∷ xss) e = cc
first_of (a ∷ as_) [] e = cc
first_of (a ∷ as_) (xs ∷ xss) e = ap (λ l. xs ∷ l) (first_of as_ xss (omega (arith, e)))

-- the first phase, behind nothing
pub first_is : (s : Stage) (m : ToStage) → next (quiet s) (λ s. takes s m) ≡ takes s m
first_is s m =
    let all = takes_all s m in
    λ i. record { stage = (takes s m).stage; sent = first_of (readers s.plan) (takes s m).sent all.sent i; requests = first_of (sources s.plan) (takes s m).requests all.asks i }

-- ---- a packet by what it carries
module _ (d : Done) (j : ℕ) (k : BasePacketView) (out : OutboxView) (y : Shard) where
  pub put_piece : (piece : Option Piece) → piece ≡ k.piece → is_some piece ≡ true → ((x : Piece) → k.piece ≡ Some x → IsPut (after d (quiet (record d.stage { right = piece_taken d.stage j x }))) out y) → IsPut (after d (packet_taken d.stage j k k.piece k.marker)) out y
  put_piece None is some f = cc
  put_piece (Some x) is some f = subst (λ o. IsPut (after d (packet_taken d.stage j k o k.marker)) out y) is (f x (sym is))

  pub put_other : (piece : Option Piece) (marker : Option Mark) → piece ≡ k.piece → is_some piece ≡ false → k.marker ≡ marker → IsPut (after d (packet_taken d.stage j k None marker)) out y → IsPut (after d (packet_taken d.stage j k k.piece k.marker)) out y
  put_other None marker is none same put = subst (λ o. IsPut (after d (packet_taken d.stage j k o k.marker)) out y) is (subst (λ m. IsPut (after d (packet_taken d.stage j k None m)) out y) (sym same) put)
  put_other (Some x) marker is none same put = cc

pub put_asking : (x : Shard) (a : Ask) (pending : List Ask) (d : Done) (out : OutboxView) → IsPut d out x → AreEdges x.plan out → pending ≡ x.pending ++ a ∷ [] → IsPut (after d (takes d.stage (request a))) out (record x { pending = pending })
put_asking x a pending d out put edges more =
    put_quiet d (takes d.stage (request a)) out x (record x { pending = pending }) put edges refl refl (ap (λ (s : Stage). takes s (request a)) (sym put.stage) ∙ ap (λ as_. quiet (record (stage_of x) { pending = as_ })) (sym more))
