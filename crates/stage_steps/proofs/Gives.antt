-- The answer to a request, put out behind the rest.
use Rattle.std.proofs.Common.{◌≡◌, ℕ, zero, suc, ◌+◌, ◌<◌, ◌==◌, Bool, true, false, cond, List, [], ◌∷◌, ◌++◌, map, length, slice_index_or, slice_set, Option, refl, ap, sym, ◌∙◌, subst, arith}
use Rattle.std.specs.List.{list_all, range_with_len}
use Rattle.std.proofs.lemmas.Bool.{eqb-true}
use Rattle.std.proofs.lemmas.Bool.Decides.{nat_tests}
use Rattle.std.proofs.lemmas.List.{append-nil, length-map}
use Rattle.std.proofs.lemmas.List.FromFn.{length-range_with_len}
use Rattle.row.specs.Bags.{Each}
use Rattle.row.specs.Cells.{Datum, datum_of, shard}
use Rattle.row.specs.declared.value.Value.{Value}
use Rattle.plan.specs.Layouts.{Layout, ViewLayout, view_at}
use Rattle.model.specs.Histories.{view_shard}
use Rattle.model.specs.Places.{sources}
use Rattle.model.specs.Queries.{Line}
use Rattle.packet.specs.Keys.{Keys}
use Rattle.packet.specs.Lines.{entries_of}
use Rattle.packet.specs.Messages.{Ask, Sent, StagePacketView, none_of, to_one}
use Rattle.packet.specs.Outboxes.{EdgeView, packets_on}
use Rattle.packet.specs.Readers.{Reader, readers, is_of, is_reader, view_of}
use Rattle.packet.specs.Truth.{Pointwise, sent_of}
use Rattle.protocol.proofs.Spots.{both_true}
use Rattle.protocol.specs.Stages.{Done, Stage, knows}
use Rattle.protocol.specs.StageSteps.{answered, append_each, quiet, with_piece}
use Rattle.right_rows.specs.Rights.{keys_in}
use Rattle.stage_sides.specs.Sides.{is_known}
use Rattle.stage_steps.specs.Outboxes.{AreEdges, OutboxView}
use Rattle.stage_steps.specs.Shards.{IsPut, IsWhole, IsTo, Shard, given, stage_of}
use Rattle.stage_steps.specs.Told.{answer_of}
use Rattle.stage_steps.proofs.Appends.{append_nothing}
use Rattle.stage_steps.proofs.Goes.{for_none}
use Rattle.stage_steps.proofs.Puts.{after, no_asks, put_after, put_quiet}
use Rattle.plan.proofs.OwnTexts.{each_join}
use Rattle.stage_steps.proofs.Untold.{knows_is}

module _ (p : Layout) (s : ℕ) (line : Line) (a : Ask) where
  abbrev pub answers : Reader → List StagePacketView
  answers r = cond (is_of p (view_of a.tag) a.key r) (answer_of p s line a.tag (view_of a.tag) (view_shard p (view_of a.tag) a.key) a.key ∷ []) []

  answers_sent : (r : Reader) → map sent_of (answers r) ≡ cond (is_of p (view_of a.tag) a.key r) (with_piece line a.key ∷ []) []
  answers_sent r = by (is_of p (view_of a.tag) a.key r)
    where
      by : (b : Bool) → map sent_of (cond b (answer_of p s line a.tag (view_of a.tag) (view_shard p (view_of a.tag) a.key) a.key ∷ []) []) ≡ cond b (with_piece line a.key ∷ []) []
      by true = refl
      by false = refl

  answers_to : (r : Reader) → Each (IsTo p s r) (answers r)
  answers_to r = by (is_of p (view_of a.tag) a.key r) refl
    where
      by : (b : Bool) → is_of p (view_of a.tag) a.key r ≡ b → Each (IsTo p s r) (cond b (answer_of p s line a.tag (view_of a.tag) (view_shard p (view_of a.tag) a.key) a.key ∷ []) [])
      by true e =
          let u = both_true (r.view == view_of a.tag) (r.shard == view_shard p (view_of a.tag) a.key) e in
          (record { plan = refl; stage = refl; view = sym (eqb-true r.view (view_of a.tag) u.0); shard = sym (eqb-true r.shard (view_shard p (view_of a.tag) a.key) u.1) }, tt)
      by false e = tt

  all_sent : (rs : List Reader) → map (map sent_of) (map answers rs) ≡ map (λ r. cond (is_of p (view_of a.tag) a.key r) (with_piece line a.key ∷ []) []) rs
  all_sent [] = refl
  all_sent (r ∷ rs) = λ i. answers_sent r i ∷ all_sent rs i

  all_to : (rs : List Reader) → Pointwise (λ r xs. Each (IsTo p s r) xs) rs (map answers rs)
  all_to [] = tt
  all_to (r ∷ rs) = (answers_to r, all_to rs)

-- the shard of a key, and what goes where, by the numbers that the code has
pub shard_is : (p : Layout) (sh view i n : ℕ) (d k : Datum) (v : ViewLayout) → sh ≡ shard d n → d ≡ k → n ≡ v.shards → v ≡ view_at p view → view ≡ i → sh ≡ view_shard p i k
shard_is p sh view i n d k v is same count at own = is ∙ rw (same, count, at, own) refl

sent_is : (p : Layout) (s : ℕ) (line : Line) (a : Ask) (view sh : ℕ) (x : StagePacketView) → view ≡ view_of a.tag → sh ≡ view_shard p (view_of a.tag) a.key → x ≡ answer_of p s line a.tag view sh a.key
    → map (λ r. cond (is_reader view sh r) (x ∷ []) []) (readers p) ≡ map (answers p s line a) (readers p)
sent_is p s line a view sh x own at is = rw (is, own, at) refl

-- ---- to one receiver
module _ {X : Type 0} where
  nobody : (xs : List X) (a n e : ℕ) → e < a → map (λ r. cond (r == e) xs []) (range_with_len a n) ≡ none_of (range_with_len a n)
  nobody xs a zero e lt = refl
  nobody xs a (suc n) e lt = let other : (a == e) ≡ false = grind (arith, nat_tests) in rw (other, nobody xs (a + 1) n e (omega (arith, lt))) refl

  one_from : (xss : List (List X)) (a n e i : ℕ) (xs : List X) → n ≡ length xss → e ≡ a + i → i < n → append_each xss (map (λ r. cond (r == e) xs []) (range_with_len a n)) ≡ slice_set xss i (slice_index_or xss i [] ++ xs)
  one_from [] a n e i xs count at lt = absurd (omega (arith, count, lt))
  one_from (ys ∷ xss) a zero e i xs count at lt = absurd (omega (arith, count))
  one_from (ys ∷ xss) a (suc n) e zero xs count at lt =
      let own : (a == e) ≡ true = grind (arith, nat_tests) in
      rw (own, nobody xs (a + 1) n e (omega (arith, at)))
      (ap (λ l. (ys ++ xs) ∷ l) (append_nothing xss (range_with_len (a + 1) n) (omega (arith, count, length-range_with_len (a + 1) n))))
  one_from (ys ∷ xss) a (suc n) e (suc i) xs count at lt =
      let other : (a == e) ≡ false = grind (arith, nat_tests) in
      rw other (λ j. append-nil ys j ∷ one_from xss (a + 1) n e i xs (omega (arith, count)) (omega (arith, at)) (omega (arith, lt)) j)

  append_one : (xss : List (List X)) (n e : ℕ) (xs : List X) → n ≡ length xss → e < n → append_each xss (to_one n e xs) ≡ slice_set xss e (slice_index_or xss e [] ++ xs)
  append_one xss n e xs count lt = one_from xss 0 n e e xs count (omega arith) lt

-- ---- what the protocol says of it
given_is : (x : Shard) (a : Ask) → given (stage_of x) a ≡ record { stage = stage_of x; sent = map (λ r. cond (is_of x.plan (view_of a.tag) a.key r) (with_piece (entries_of x.line) a.key ∷ []) []) (readers x.plan); requests = none_of (sources x.plan) }
given_is x a = ap (λ (sent : List (List Sent)). record { stage = stage_of x; sent = sent; requests = none_of (sources x.plan) }) (for_none (λ asked r. cond (is_of x.plan (view_of a.tag) a.key r) (with_piece (entries_of x.line) a.key ∷ []) []) (readers x.plan))

module _ (x : Shard) (a : Ask) (d : Done) (out new : OutboxView) (put : IsPut d out x) (edges : AreEdges x.plan out) where
  pub put_given : (view sh e : ℕ) (packet : StagePacketView) → view ≡ view_of a.tag → sh ≡ view_shard x.plan (view_of a.tag) a.key → packet ≡ answer_of x.plan x.shard (entries_of x.line) a.tag view sh a.key → e < length (readers x.plan)
      → to_one (length (readers x.plan)) e (packet ∷ []) ≡ map (λ r. cond (is_reader view sh r) (packet ∷ []) []) (readers x.plan)
      → packets_on new.packets ≡ slice_set (packets_on out.packets) e (slice_index_or (packets_on out.packets) e [] ++ packet ∷ []) → new.requests ≡ out.requests → IsPut (after d (given d.stage a)) new x
  put_given view sh e packet own at is lt place told same =
      let is_given = ap (λ (s : Stage). given s a) (sym put.stage) ∙ given_is x a in
      let count : length (readers x.plan) ≡ length (packets_on out.packets) = omega (arith, edges.readers, length-map out.packets (λ (e : EdgeView StagePacketView). e.packets)) in
      put_after d (given d.stage a) out new x x put refl refl (map (answers x.plan x.shard (entries_of x.line) a) (readers x.plan)) (sym (ap (λ (e : Done). e.stage) is_given))
      (told ∙ (sym (append_one (packets_on out.packets) (length (readers x.plan)) e (packet ∷ []) count lt) ∙ ap (append_each (packets_on out.packets)) (place ∙ sent_is x.plan x.shard (entries_of x.line) a view sh packet own at is)))
      (all_sent x.plan x.shard (entries_of x.line) a (readers x.plan) ∙ sym (ap (λ (e : Done). e.sent) is_given)) (all_to x.plan x.shard (entries_of x.line) a (readers x.plan))
      (ap packets_on same ∙ (sym (no_asks x.plan out edges) ∙ ap (append_each (packets_on out.requests)) (sym (ap (λ (e : Done). e.requests) is_given))))

-- ---- whether it is answered

pub all_known : (here : Datum → Bool) (keys : Option Keys) (ks : List Value) → ((k : Datum) → here k ≡ is_known k keys) → list_all (λ k. here (datum_of k)) ks ≡ list_all (knows keys) (map datum_of ks)
all_known here keys [] known = refl
all_known here keys (k ∷ ks) known = rw (known (datum_of k) ∙ knows_is keys (datum_of k), all_known here keys ks known) refl

pub put_answer : (x : Shard) (a : Ask) (d : Done) (out new : OutboxView) (needed : List Datum) → IsPut d out x → list_all (knows (keys_in x.rows.right)) needed ≡ true → IsPut (after d (given d.stage a)) new x → IsPut (after d (answered d.stage a needed)) new x
put_answer x a d out new needed put known is =
    let right = ap (λ (s : Stage). s.right) put.stage in
    subst (λ (b : Bool). IsPut (after d (cond b (given d.stage a) (quiet (record d.stage { pending = d.stage.pending ++ a ∷ [] })))) new x) (sym (sym (ap (λ o. list_all (knows o) needed) right) ∙ known)) is

pub put_later : (x : Shard) (a : Ask) (pending : List Ask) (d : Done) (out : OutboxView) (needed : List Datum) → IsPut d out x → AreEdges x.plan out → list_all (knows (keys_in x.rows.right)) needed ≡ false → pending ≡ x.pending ++ a ∷ []
    → IsPut (after d (answered d.stage a needed)) out (record x { pending = pending })
put_later x a pending d out needed put edges known more =
    let e : answered (stage_of x) a needed ≡ quiet (record (stage_of x) { pending = x.pending ++ a ∷ [] }) = ap (λ b. cond b (given (stage_of x) a) (quiet (record (stage_of x) { pending = x.pending ++ a ∷ [] }))) known in
    put_quiet d (answered d.stage a needed) out x (record x { pending = pending }) put edges refl refl
    (ap (λ (s : Stage). answered s a needed) (sym put.stage) ∙ (e ∙ ap (λ p. quiet (record (stage_of x) { pending = p })) (sym more)))

-- one request more waits
pub later_whole : (x : Shard) (a : Ask) (pending : List Ask) → IsWhole x → view_of a.tag < length x.plan.views → pending ≡ x.pending ++ a ∷ [] → IsWhole (record x { pending = pending })
later_whole x a pending whole there more = record {
  shard = whole.shard;
  of = whole.of;
  fronts = whole.fronts;
  senders = whole.senders;
  rows = whole.rows;
  pending = subst (λ as_. Each (λ (a : Ask). view_of a.tag < length x.plan.views) as_) (sym more) (each_join (λ (a : Ask). view_of a.tag < length x.plan.views) x.pending (a ∷ []) whole.pending (there, tt));
}
