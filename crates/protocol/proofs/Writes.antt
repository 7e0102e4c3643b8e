-- A write is allowed, and its reply is what the history says.
use Rattle.std.proofs.Common.{◌≡◌, ◌≢◌, ℕ, zero, suc, ◌+◌, ◌==◌, ◌||◌, ◌<◌, ◌≤◌, nat_lt, Bool, true, false, not, cond, List, [], ◌∷◌, ◌++◌, flat_map, filter, length, slice_get, slice_set, slice_index_or, Option, Some, None, refl, ap, sym, ◌∙◌, subst, arith, append-nil, length-append, ◌⊎◌, inl, inr}
use Rattle.std.specs.Str.{bytes_eq}
use Rattle.std.proofs.lemmas.Bool.Decides.{nat_tests}
use Rattle.std.proofs.lemmas.List.Elements.{filter-append}
use Rattle.std.proofs.lemmas.List.Folds.{list_any-append}
use Rattle.row.specs.Cells.{shard}
use Rattle.row.specs.Bags.{Each}
use Rattle.row.proofs.Shards.{shard_small}
use Rattle.row.specs.declared.refused.Refused.{Refused}
use Rattle.row.specs.declared.refused.Refused.TheVariants.{Stopped, UnknownPlace}
use Rattle.plan.specs.Layouts.{TableLayout, Layout, table_at, table_named}
use Rattle.model.specs.Histories as item
use Rattle.protocol.specs.Bases as base
use Rattle.protocol.specs.BaseSteps as on_base
use Rattle.protocol.specs.Events as event
use Rattle.plan.specs.Profile.{IsPlan}
use Rattle.model.specs.Logs.{Change, key_of, fits, lawful}
use Rattle.model.specs.Places.{layout_of, table_of, shard_of, sources}
use Rattle.model.specs.Histories.{Item, Author, IsSame, last_or, log_of}
use Rattle.model.specs.Legal.{limit, AllowsWrite, most_sessions}
use Rattle.model.specs.Refusals.{refusal, write_refusal, misfit}
use Rattle.model.proofs.PlaceLaws.{base_range, base_shard, base_layout, placed}
use Rattle.model.proofs.Growth.{legal_more, log_push, log_other, authors_push, authors_other}
use Rattle.packet.specs.Readers.{side_of}
use Rattle.protocol.specs.Bases.{Base, next_of, number_after}
use Rattle.protocol.specs.Worlds.{Node, World, Caller, Fence}
use Rattle.protocol.specs.Events.{Event, Reply, accepted, refused}
use Rattle.protocol.specs.Theorem.{Told, IsWrite, by_call, by_base, by_log, is_numbered, number_in, stops_base, has_stopped}
use Rattle.protocol.specs.WorldSteps.{Did, base_did, base_for, numbered, verdict_of, written, write_in, write_by}
use Rattle.protocol.proofs.Wired.{with_callers, IsPast, IsLogOf, IsBase, AreBases, IsNumbered, IsCaller, Good}
use Rattle.protocol.specs.Edges.{source_place, place_or, reader_place}
use Rattle.protocol.proofs.Lists.{each_at, each_to, got, set_at, or_of}
use Rattle.protocol.proofs.Parts.{HasSent, entry_sent, sent_none}
use Rattle.protocol.proofs.Spots.{HasSide, sources_sided, found, same_is, is_same, position_small}
use Rattle.protocol.proofs.Moves.{wired_base, wired_caller}
use Rattle.protocol.proofs.Within.{there, not_past}
use Rattle.protocol.proofs.Fences.{floors_set, floor_quiet}
use Rattle.protocol.proofs.Keeps.{Kept, took_base}
use Rattle.plan.proofs.Facts.{facts}
use Rattle.model.proofs.LegalSamples.{allowed}
use Rattle.plan.specs.Facts.{IsTable}
use Rattle.model.proofs.Lists.{each_push}

-- ---- events
pub number_more : (se : ℕ) (past : List Event) (e : Event) (b : Bool) → is_numbered se e ≡ b → number_in se (past ++ e ∷ []) ≡ cond b (suc (number_in se past)) (number_in se past)
number_more se past e b is = ap length (filter-append (is_numbered se) past (e ∷ [])) ∙ (length-append (filter (is_numbered se) past) (filter (is_numbered se) (e ∷ [])) ∙ by (is_numbered se e) is)
  where
    by : (c : Bool) → c ≡ b → number_in se past + length (cond c (e ∷ []) []) ≡ cond b (suc (number_in se past)) (number_in se past)
    by true i = rw (sym i) (omega arith)
    by false i = rw (sym i) (omega arith)

pub stop_more : (p : Layout) (b : ℕ) (past : List Event) (e : Event) → has_stopped p b (past ++ e ∷ []) ≡ (has_stopped p b past || stops_base p b e)
stop_more p b past e = list_any-append (stops_base p b) past (e ∷ []) ∙ by (has_stopped p b past) (stops_base p b e)
  where
    by : (x y : Bool) → (x || (y || false)) ≡ (x || y)
    by true y = refl
    by false true = refl
    by false false = refl

pub or_false : (x y : Bool) → y ≡ false → (x || y) ≡ x
or_false true y e = refl
or_false false y e = e

-- an event without a number that stops nothing
pub quiet_past : (p : Layout) (bases : List (Node Base)) (callers : List Caller) (past : List Event) (e : Event) → ((se : ℕ) → is_numbered se e ≡ false) → ((b : ℕ) → stops_base p b e ≡ false)
    → IsPast p bases callers past → IsPast p bases callers (past ++ e ∷ [])
quiet_past p bases callers past e n s h = record {
  numbers = λ se c at. h.numbers se c at ∙ sym (number_more se past e false (n se));
  stops = λ b m at. h.stops b m at ∙ sym (stop_more p b past e ∙ or_false (has_stopped p b past) (stops_base p b e) (s b));
}

pub good_later : (w : World) (past : List Event) (h : List Item) (e : Event) → ((se : ℕ) → is_numbered se e ≡ false) → ((b : ℕ) → stops_base w.plan b e ≡ false) → Good w past h → Good w (past ++ e ∷ []) h
good_later w past h e n s g = record { wired = g.wired; history = g.history; events = quiet_past w.plan w.bases w.callers past e n s g.events }

-- a write or a fence of the session takes a number
abbrev pub counted : Caller → Option Fence → Caller
counted c f = record { number = suc c.number; floors = c.floors; fence = f }

pub good_counted : (w : World) (past : List Event) (h : List Item) (se : ℕ) (c : Caller) (e : Event) (f : Option Fence) → slice_get w.callers se ≡ Some c → ((i : ℕ) → is_numbered i e ≡ (se == i)) → ((b : ℕ) → stops_base w.plan b e ≡ false)
    → IsCaller w.views (counted c f) → Good w past h → Good (with_callers w (slice_set w.callers se (counted c f))) (past ++ e ∷ []) h
good_counted w past h se c e f at n s is g = record {
  wired = wired_caller w se c (counted c f) at (omega arith) is g.wired;
  history = record {
    legal = g.history.legal;
    logs = g.history.logs;
    floors = floors_set w.plan w.callers h h se (counted c f) g.history.floors (λ i apart fs a. a) (g.history.floors se c at);
  };
  events = record {
    numbers = λ i d is. number i d (got w.callers se (counted c f) i d is);
    stops = λ b m is. g.events.stops b m is ∙ sym (stop_more w.plan b past e ∙ or_false (has_stopped w.plan b past) (stops_base w.plan b e) (s b));
  };
}
  where
    number : (i : ℕ) (d : Caller) → ((i ≡ se) × (d ≡ counted c f)) ⊎ (((se == i) ≡ false) × (slice_get w.callers i ≡ Some d)) → d.number ≡ number_in i (past ++ e ∷ [])
    number i d (inl r) =
        ap (λ (x : Caller). x.number) r.1 ∙ (ap suc (g.events.numbers se c at ∙ ap (λ k. number_in k past) (sym r.0)) ∙ sym (number_more i past e true (n i ∙ (ap (λ k. se == k) r.0 ∙ is_same se))))
    number i d (inr r) = g.events.numbers i d r.1 ∙ sym (number_more i past e false (n i ∙ r.0))

-- a caller that there is not
pub good_unknown : (w : World) (past : List Event) (h : List Item) (se : ℕ) (e : Event) → slice_get w.callers se ≡ None → ((i : ℕ) → is_numbered i e ≡ (se == i)) → ((b : ℕ) → stops_base w.plan b e ≡ false)
    → Good w past h → Good w (past ++ e ∷ []) h
good_unknown w past h se e at n s g = record {
  wired = g.wired;
  history = g.history;
  events = record {
    numbers = λ i d is. g.events.numbers i d is ∙ sym (number_more i past e false (n i ∙ other i d is (se == i) refl));
    stops = λ b m is. g.events.stops b m is ∙ sym (stop_more w.plan b past e ∙ or_false (has_stopped w.plan b past) (stops_base w.plan b e) (s b));
  };
}
  where
    other : (i : ℕ) (d : Caller) → slice_get w.callers i ≡ Some d → (t : Bool) → (se == i) ≡ t → t ≡ false
    other i d is true e = let z = same_is se i e in let q : slice_get w.callers se ≡ Some d = ap (slice_get w.callers) z ∙ is in cc
    other i d is false e = refl

-- ---- what a refusal that does not come tells
fits_of : (p : Layout) (t : ℕ) (e : Change) → write_refusal p (Some t) e ≡ None → fits (table_at p t) e ≡ true
fits_of p t e q = by (fits (table_at p t) e) refl q
  where
    by : (b : Bool) → fits (table_at p t) e ≡ b → cond b None (Some (misfit e)) ≡ None → fits (table_at p t) e ≡ true
    by true i q = i
    by false i q = cc

-- ---- numbers
last_small : (d n : ℕ) (xs : List ℕ) → d ≤ n → Each (λ x. x ≤ n) xs → last_or d xs ≤ n
last_small d n [] l h = l
last_small d n (x ∷ xs) l h = last_small x n xs h.0 h.1

next_each : (se n : ℕ) (authors : List Author) → Each (λ (a : Author). a.session ≡ se → a.number < n) authors → Each (λ x. x ≤ n) (flat_map (number_after se) authors)
next_each se n [] h = tt
next_each se n (a ∷ authors) h = by (a.session == se) refl (next_each se n authors h.1)
  where
    by : (t : Bool) → (a.session == se) ≡ t → Each (λ x. x ≤ n) (flat_map (number_after se) authors) → Each (λ x. x ≤ n) (cond t ((a.number + 1) ∷ []) [] ++ flat_map (number_after se) authors)
    by true e r = (let l = h.0 (same_is a.session se e) in omega arith, r)
    by false e r = r

next_small : (se n : ℕ) (authors : List Author) → Each (λ (a : Author). a.session ≡ se → a.number < n) authors → nat_lt n (next_of se authors) ≡ false
next_small se n authors h = let l = last_small 0 n (flat_map (number_after se) authors) (omega arith) (next_each se n authors h) in grind (arith, nat_tests)

-- ---- the base shard that an entry is for
shards_some : (p : Layout) (t : ℕ) → IsPlan p → t < length p.tables → (table_at p t).shards ≢ 0
shards_some p t g lt =
    let x = there p.tables t lt in
    let i = each_at IsTable p.tables t x.0 x.1 (facts p g).tables in
    let l = i.shards.least_of in
    let e : table_at p t ≡ x.0 = or_of p.tables t x.0 _ x.1 in
    λ z. let y : x.0.shards ≡ 0 = ap (λ (u : TableLayout). u.shards) (sym e) ∙ z in omega (arith, y, l)

abbrev pub shard_for : Layout → ℕ → Change → ℕ
shard_for p t e = shard (key_of (table_at p t).key e) (table_at p t).shards

for_small : (p : Layout) (t : ℕ) (e : Change) → IsPlan p → t < length p.tables → shard_for p t e < (table_at p t).shards
for_small p t e g lt = shard_small (key_of (table_at p t).key e) (table_at p t).shards (shards_some p t g lt)

-- what a write comes to
pub record Writes (w : World) (past : List Event) (h : List Item) (se : ℕ) (table : List ℕ) (e : Change) (d : Did) (r : Reply) : Type 0 where
  pub is : List Item
  pub kept : Kept w.plan (past ++ event.write se table e ∷ []) (h ++ is) d.world
  pub same : d.reply ≡ r
  pub writes : IsWrite w.plan past se table e d.reply is

module _ (w : World) (past : List Event) (h : List Item) (se : ℕ) (c : Caller) (table : List ℕ) (e : Change) (at : slice_get w.callers se ≡ Some c) (g : Good w past h) where
  abbrev ev : Event
  ev = event.write se table e

  abbrev w1 : World
  w1 = numbered w se c

  g1 : Good w1 (past ++ ev ∷ []) h
  g1 = let i = each_at (IsCaller w.views) w.callers se c at g.wired.callers in
      good_counted w past h se c ev c.fence at (λ i. refl) (λ b. refl) (record { floors = i.floors; acks = i.acks }) g

  declines : (d : World) (r : Refused) → Kept w.plan (past ++ ev ∷ []) h d → Writes w past h se table e (record { world = d; reply = refused r }) (refused r)
  declines d r k = record { is = []; kept = subst (λ l. Kept w.plan (past ++ ev ∷ []) l d) (sym (append-nil h)) k; same = refl; writes = refl }

  module _ (t : ℕ) (lt : t < length w.plan.tables) (fit : fits (table_at w.plan t) e ≡ true) (n : Node Base) (is : slice_get w.bases (base_for w.plan t e) ≡ Some n) where
    abbrev b : ℕ
    b = base_for w.plan t e

    small : shard_for w.plan t e < (table_at w.plan t).shards
    small = for_small w.plan t e g.wired.good lt

    layout : layout_of w.plan b ≡ table_at w.plan t
    layout = base_layout w.plan t (shard_for w.plan t e) lt small

    fitting : fits (layout_of w.plan b) e ≡ true
    fitting = subst (λ (l : TableLayout). fits l e ≡ true) (sym layout) fit

    log : IsLogOf h b n
    log = g.history.logs b n is

    apart : Each (λ (a : Author). a.session ≡ se → a.number < c.number) n.is.authors
    apart = each_to (IsNumbered w.callers) (λ (a : Author). a.session ≡ se → a.number < c.number) (λ a i s. i c (ap (slice_get w.callers) s ∙ at)) n.is.authors (g.wired.bases b n is).numbers

    module _ (none : refusal (layout_of w.plan b).key limit n.is.entries e ≡ None) (runs : n.runs ≡ true) where
      abbrev x : Item
      x = item.write se c.number b e

      abbrev m : Node Base
      m = record { is = on_base.with_entry n.is se c.number e; runs = true }

      may : (lawful (layout_of w.plan b).key n.is.entries e ≡ true) × (length n.is.entries < limit)
      may = allowed (layout_of w.plan b).key limit n.is.entries e none

      allows : AllowsWrite w.plan h se c.number b e
      allows = record {
        base = base_range w.plan t (shard_for w.plan t e) lt small;
        fits = fitting;
        shard = base_shard w.plan t (shard_for w.plan t e) lt small ∙ ap (λ (l : TableLayout). shard (key_of l.key e) l.shards) (sym layout);
        lawful = subst (λ l. lawful (layout_of w.plan b).key l e ≡ true) (sym log.log) may.0;
        room = subst (λ (l : List Change). length l < limit) (sym log.log) may.1;
        number = subst (Each (λ (a : Author). a.session ≡ se → a.number < c.number)) (sym log.authors) apart;
      }

      next : (d : Caller) → slice_get (slice_set w.callers se (counted c c.fence)) se ≡ Some d → c.number < d.number
      next d i =
          let j = set_at w.callers se (counted c c.fence) c at in
          let q : d ≡ counted c c.fence = cc in
          subst (λ (x : Caller). c.number < x.number) (sym q) (omega arith)

      longer : IsBase w.plan (slice_set w.callers se (counted c c.fence)) b m
      longer =
          let o = g1.wired.bases b n is in
          record {
            plan = o.plan;
            base = o.base;
            range = o.range;
            log = record { fitting = each_push (λ e. fits (layout_of w.plan b) e ≡ true) n.is.entries e o.log.fitting fitting; room = let f = may.1 in omega (arith, f, length-append n.is.entries (e ∷ [])) };
            authors = let a = o.authors in omega (arith, a, length-append n.is.entries (e ∷ []), length-append n.is.authors (record { session = se; number = c.number } ∷ []));
            numbers = each_push (IsNumbered (slice_set w.callers se (counted c c.fence))) n.is.authors (record { session = se; number = c.number }) o.numbers next;
          }

      bases : AreBases w.plan (slice_set w.callers se (counted c c.fence)) (slice_set w.bases b m)
      bases i k at = by (got w.bases b m i k at)
        where
          by : ((i ≡ b) × (k ≡ m)) ⊎ (((b == i) ≡ false) × (slice_get w.bases i ≡ Some k)) → IsBase w.plan (slice_set w.callers se (counted c c.fence)) i k
          by (inl r) = subst (λ j. IsBase w.plan (slice_set w.callers se (counted c c.fence)) j k) (sym r.0) (subst (IsBase w.plan (slice_set w.callers se (counted c c.fence)) b) (sym r.1) longer)
          by (inr r) = g1.wired.bases i k r.1

      sent : (j : ℕ) → source_place w.plan b ≡ Some j → HasSent w.plan n.is.entries (n.is.entries ++ e ∷ []) (on_base.appended n.is se c.number e).sent
      sent j q =
          let f = found (λ c. c == b) (sources w.plan) j q in
          let side = subst (HasSide w.plan) (same_is f.it b f.passes) (each_at (HasSide w.plan) (sources w.plan) j f.it f.at (sources_sided w.plan g.wired.good)) in
          let o = g.wired.bases b n is in
          subst (λ p. HasSent p n.is.entries (n.is.entries ++ e ∷ []) (on_base.appended n.is se c.number e).sent) o.plan
          (entry_sent n.is se c.number e side.0 (ap (λ p. side_of p n.is.base) o.plan ∙ (ap (side_of w.plan) o.base ∙ side.1)))

      logs : (i : ℕ) (k : Node Base) → slice_get (slice_set w.bases b m) i ≡ Some k → IsLogOf (h ++ x ∷ []) i k
      logs i k at = by (got w.bases b m i k at)
        where
          by : ((i ≡ b) × (k ≡ m)) ⊎ (((b == i) ≡ false) × (slice_get w.bases i ≡ Some k)) → IsLogOf (h ++ x ∷ []) i k
          by (inl r) = subst (λ j. IsLogOf (h ++ x ∷ []) j k) (sym r.0) (subst (IsLogOf (h ++ x ∷ []) b) (sym r.1)
              (record { log = log_push b h se c.number e ∙ ap (λ l. l ++ e ∷ []) log.log; authors = authors_push b h se c.number e ∙ ap (λ l. l ++ record { session = se; number = c.number } ∷ []) log.authors }))
          by (inr r) = let l = g.history.logs i k r.1 in record { log = log_other i b h se c.number e r.0 ∙ l.log; authors = authors_other i b h se c.number e r.0 ∙ l.authors }

      stops : (i : ℕ) (k : Node Base) → slice_get (slice_set w.bases b m) i ≡ Some k → not k.runs ≡ has_stopped w.plan i (past ++ ev ∷ [])
      stops i k at = by (got w.bases b m i k at)
        where
          by : ((i ≡ b) × (k ≡ m)) ⊎ (((b == i) ≡ false) × (slice_get w.bases i ≡ Some k)) → not k.runs ≡ has_stopped w.plan i (past ++ ev ∷ [])
          by (inl r) = ap (λ (y : Node Base). not y.runs) r.1 ∙ (sym (ap not runs) ∙ (g1.events.stops b n is ∙ ap (λ j. has_stopped w.plan j (past ++ ev ∷ [])) (sym r.0)))
          by (inr r) = g1.events.stops i k r.1

      appends : Writes w past h se table e (record { world = base_did w1 b (on_base.appended n.is se c.number e); reply = accepted (table_of w.plan b) (shard_of w.plan b) (length n.is.entries) })
          (accepted (table_of w.plan b) (shard_of w.plan b) (length (log_of b h)))
      appends = record {
        is = x ∷ [];
        kept = record {
          plan = refl;
          good = record {
            wired = wired_base w1 (slice_set w.callers se (counted c c.fence)) b n (on_base.appended n.is se c.number e) is g1.wired sent bases g1.wired.callers g1.wired.sixteen;
            history = record {
              legal = legal_more w.plan most_sessions [] h x g.history.legal allows;
              logs = logs;
              floors = λ i d at a j la lj. subst (λ c. IsSame c (slice_index_or d.floors (place_or (reader_place w.plan a j)) [])) (sym (floor_quiet w.plan i a j h x refl)) (g1.history.floors i d at a j la lj);
            };
            events = record { numbers = g1.events.numbers; stops = stops };
          };
        };
        same = ap (λ (l : List Change). accepted (table_of w.plan b) (shard_of w.plan b) (length l)) (sym log.log);
        writes = ap (λ k. item.write se k b e ∷ []) (g.events.numbers se c at) ∙ ap (λ k. item.write se (number_in se past) k e ∷ []) (sym (placed w.plan.tables b (base_range w.plan t (shard_for w.plan t e) lt small)).number);
      }

    -- at its base shard
    at_base : (r : Bool) → n.runs ≡ r → (o : Option Refused) → refusal (layout_of n.is.plan n.is.base).key limit n.is.entries e ≡ o
        → Writes w past h se table e
        (cond r (let d = on_base.step n.is (base.write se c.number e) in record { world = base_did w1 b d; reply = verdict_of w.plan b d.reply }) (record { world = w1; reply = refused Stopped }))
        (cond (not r) (refused Stopped) (by_log w.plan b h o))
    at_base false e1 o q = declines w1 Stopped (record { plan = refl; good = g1 })
    at_base true e1 (Some r) q =
        subst (λ d. Writes w past h se table e (record { world = base_did w1 b d; reply = verdict_of w.plan b d.reply }) (refused r)) (sym (decides (Some r) q))
        (declines (base_did w1 b (on_base.quiet n.is (Some (base.declined r)))) r
        (record { plan = refl; good = took_base w1 (past ++ ev ∷ []) h b n (on_base.quiet n.is (Some (base.declined r))) is e1 refl (sent_none n.is.plan n.is.entries) g1 }))
      where
        decides : (o : Option Refused) → refusal (layout_of n.is.plan n.is.base).key limit n.is.entries e ≡ o → on_base.step n.is (base.write se c.number e) ≡ on_base.decided n.is se c.number e o
        decides o q = ap (λ t. cond t (on_base.quiet n.is None) (on_base.decided n.is se c.number e (refusal (layout_of n.is.plan n.is.base).key limit n.is.entries e))) (next_small se c.number n.is.authors apart) ∙ ap (on_base.decided n.is se c.number e) q
    at_base true e1 None q =
        subst (λ d. Writes w past h se table e (record { world = base_did w1 b d; reply = verdict_of w.plan b d.reply }) (accepted (table_of w.plan b) (shard_of w.plan b) (length (log_of b h)))) (sym (decides None q))
        (appends (ap (λ (l : TableLayout). refusal l.key limit n.is.entries e) (sym here) ∙ q) e1)
      where
        here : layout_of n.is.plan n.is.base ≡ layout_of w.plan b
        here = let o = g.wired.bases b n is in ap (λ p. layout_of p n.is.base) o.plan ∙ ap (layout_of w.plan) o.base

        decides : (o : Option Refused) → refusal (layout_of n.is.plan n.is.base).key limit n.is.entries e ≡ o → on_base.step n.is (base.write se c.number e) ≡ on_base.decided n.is se c.number e o
        decides o q = ap (λ t. cond t (on_base.quiet n.is None) (on_base.decided n.is se c.number e (refusal (layout_of n.is.plan n.is.base).key limit n.is.entries e))) (next_small se c.number n.is.authors apart) ∙ ap (on_base.decided n.is se c.number e) q

    in_base : Writes w past h se table e (written w1 se c.number e b (Some n)) (by_base w.plan b past h e)
    in_base =
        let o = g.wired.bases b n is in
        let x = refusal (layout_of n.is.plan n.is.base).key limit n.is.entries e in
        let here : layout_of w.plan b ≡ layout_of n.is.plan n.is.base = sym (ap (λ p. layout_of p n.is.base) o.plan ∙ ap (layout_of w.plan) o.base) in
        let same : refusal (layout_of w.plan b).key limit (log_of b h) e ≡ x = ap (λ l. refusal (layout_of w.plan b).key limit l e) log.log ∙ ap (λ (l : TableLayout). refusal l.key limit n.is.entries e) here in
        let r : by_base w.plan b past h e ≡ cond (not n.runs) (refused Stopped) (by_log w.plan b h x) =
        ap (λ t. cond t (refused Stopped) (by_log w.plan b h (refusal (layout_of w.plan b).key limit (log_of b h) e))) (sym (g.events.stops b n is)) ∙ ap (λ y. cond (not n.runs) (refused Stopped) (by_log w.plan b h y)) same in
        subst (Writes w past h se table e (written w1 se c.number e b (Some n))) (sym r) (at_base n.runs refl x refl)

  in_call : (t : Option ℕ) (o : Option Refused) → table_named w.plan table ≡ t → write_refusal w.plan t e ≡ o → Writes w past h se table e (write_in w1 se c.number t e o) (by_call w.plan t past h e o)
  in_call t (Some r) i q = declines w1 r (record { plan = refl; good = g1 })
  in_call None None i q = declines w1 UnknownPlace (record { plan = refl; good = g1 })
  in_call (Some t) None i q =
      let lt = position_small (λ (x : TableLayout). bytes_eq x.name table) w.plan.tables t i in
      let small = base_range w.plan t (shard_for w.plan t e) lt (for_small w.plan t e g.wired.good lt) in
      let n = there w.bases (base_for w.plan t e) (subst (λ k. base_for w.plan t e < k) (sym g.wired.counted) small) in
      subst (λ o. Writes w past h se table e (written w1 se c.number e (base_for w.plan t e) o) (by_base w.plan (base_for w.plan t e) past h e)) (sym n.1)
      (in_base t lt (fits_of w.plan t e q) n.0 n.1)

pub none_past : {X : Type 0} (xs : List X) (i : ℕ) → slice_get xs i ≡ None → length xs ≤ i
none_past [] i at = omega arith
none_past (x ∷ xs) zero at = cc
none_past (x ∷ xs) (suc i) at = let r = none_past xs i at in omega arith

-- what an event comes to
pub record Tells (w : World) (past : List Event) (h : List Item) (e : Event) (d : Did) : Type 0 where
  pub is : List Item
  pub kept : Kept w.plan (past ++ e ∷ []) (h ++ is) d.world
  pub told : Told w.plan past h e d.reply is

session_known : (callers : List Caller) (se : ℕ) → length callers ≡ most_sessions → (o : Option Caller) → slice_get callers se ≡ o → (m : ℕ) → m ≡ most_sessions → nat_lt se m ≡ (elim o as (λ _. Bool) [ None ↦ false | Some c ↦ true ])
session_known callers se size None at m z = let l = none_past callers se at in grind (arith, nat_tests)
session_known callers se size (Some c) at m z = let l = not_past callers se c at in grind (arith, nat_tests)

pub write_tells : (w : World) (past : List Event) (h : List Item) (se : ℕ) (o : Option Caller) (table : List ℕ) (e : Change) → slice_get w.callers se ≡ o → Good w past h → Tells w past h (event.write se table e) (write_by w se o table e)
write_tells w past h se None table e at g = record {
  is = [];
  kept = record { plan = refl; good = subst (Good w (past ++ event.write se table e ∷ [])) (sym (append-nil h)) (good_unknown w past h se (event.write se table e) at (λ i. refl) (λ b. refl) g) };
  told = (sym (ap (λ t. cond t (by_call w.plan (table_named w.plan table) past h e (write_refusal w.plan (table_named w.plan table) e)) (refused UnknownPlace)) (session_known w.callers se g.wired.sixteen None at most_sessions refl)), refl);
}
write_tells w past h se (Some c) table e at g =
    let r = in_call w past h se c table e at g (table_named w.plan table) (write_refusal w.plan (table_named w.plan table) e) refl refl in
    record {
      is = r.is;
      kept = r.kept;
      told = (r.same ∙ sym (ap (λ t. cond t (by_call w.plan (table_named w.plan table) past h e (write_refusal w.plan (table_named w.plan table) e)) (refused UnknownPlace)) (session_known w.callers se g.wired.sixteen (Some c) at most_sessions refl)), r.writes);
    }
