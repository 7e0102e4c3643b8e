-- All other events.
use Rattle.std.proofs.Common.{◌≡◌, ◌≢◌, ℕ, zero, suc, ◌==◌, ◌&&◌, ◌||◌, ◌<◌, Bool, true, false, not, cond, List, [], ◌∷◌, ◌++◌, map, length, slice_get, slice_set, slice_index_or, Option, Some, None, refl, ap, sym, ◌∙◌, subst, arith, append-nil, ◌⊎◌, inl, inr}
use Rattle.std.specs.Str.{bytes_eq}
use Rattle.row.specs.Cells.{Datum, shard}
use Rattle.row.proofs.Shards.{shard_small}
use Rattle.row.specs.declared.refused.Refused.{Refused}
use Rattle.row.specs.declared.refused.Refused.TheVariants.{Stopped, UnknownPlace}
use Rattle.plan.specs.Layouts.{ViewLayout, Layout, view_at, view_named}
use Rattle.plan.specs.declared.domain.DomainId.{DomainId}
use Rattle.plan.specs.declared.domain.DomainId.TheVariants as domain
use Rattle.plan.specs.declared.domain.Edge.{Edge}
use Rattle.model.specs.Histories as item
use Rattle.protocol.specs.Stages as stage
use Rattle.protocol.specs.Views as view
use Rattle.protocol.specs.Events as event
use Rattle.plan.specs.Profile.{IsPlan}
use Rattle.plan.proofs.Facts.{facts}
use Rattle.plan.specs.Facts.{IsView}
use Rattle.model.specs.Places.{base_at, sources}
use Rattle.model.specs.Queries.{answer}
use Rattle.model.specs.Histories.{Item, Lengths, IsSame, floor_of, view_shard}
use Rattle.protocol.proofs.Wired.{with_callers, IsLogOf, IsBase, AreFloors, Edges, entries_at, source_logs, lines_of, IsCaller, IsFloor, IsAck, Good}
use Rattle.model.specs.Legal.{AllowsRead, most_sessions}
use Rattle.model.specs.Refusals.{read_refusal, view_refusal}
use Rattle.model.proofs.Growth.{legal_more, at_most_self}
use mathlib.Core.List.{IsPrefix}
use Rattle.packet.specs.Readers.{Reader, readers}
use Rattle.partial.specs.States.{is_filled}
use Rattle.packet.specs.Truth.{Pointwise, Grows}
use Rattle.protocol.proofs.Leading.{IsRun, IsBaseRun}
use Rattle.protocol.specs.Bases.{Base}
use Rattle.protocol.specs.Stages.{Stage}
use Rattle.protocol.specs.Views.{View}
use Rattle.protocol.specs.Worlds.{Node, World, Caller}
use Rattle.protocol.specs.Events.{Event, hit, miss, refused, wanted, fence_sent, evicted, stopped, asked}
use Rattle.protocol.specs.Theorem.{Told, is_numbered, stops_base, is_base, has_stopped}
use Rattle.protocol.specs.WorldSteps.{lower_run, Did, lengths_of, reader_of, looked, try_in, try_by, wanted_at, want_in, want_by, count_in, count_by, asked_all, marked, fence_by, all_run, numbered, stage_order, evict_stage_in, view_order, evict_view_in, stage_takes, view_takes, off, off_at, stops, stop_at, on_edge, rounds}
use Rattle.protocol.specs.Edges.{place_or, reader_place, Wire, is_there}
use Rattle.protocol.proofs.Lists.{each_at, each_set, got, set_at, set_size, map_same, pair_at, pair_right, pair_size, or_of}
use Rattle.protocol.proofs.EdgeLaws.{edges_off}
use Rattle.protocol.proofs.Parts.{want_rests, order_rests, base_runs, stage_runs}
use Rattle.protocol.proofs.Spots.{reader_found, readers_apart, is_same, same_is, both_true, position_small}
use Rattle.protocol.proofs.Moves.{wired_caller, callers_more, readers_size}
use Rattle.protocol.proofs.Within.{IsCut, cut_of, cut_within, cut_fronts, there, not_past}
use Rattle.protocol.proofs.Keeps.{Kept, kept_marked, takes_order}
use Rattle.protocol.proofs.Fences.{floors_set, numbers_set, floor_quiet, floor_push, logs_quiet, rests_kept}
use Rattle.protocol.proofs.Settles.{delivers, settles}
use Rattle.protocol.proofs.Writes.{Tells, good_later, good_counted, good_unknown, counted, stop_more, number_more, or_false}

-- ---- events that tell of nothing
module _ (w : World) (past : List Event) (h : List Item) (e : Event) (n : (se : ℕ) → is_numbered se e ≡ false) (s : (b : ℕ) → stops_base w.plan b e ≡ false) where
  pub kept_later : (l : List Item) (d : World) → Kept w.plan past l d → Kept w.plan (past ++ e ∷ []) l d
  kept_later l d k = record { plan = k.plan; good = good_later d past l e n (λ b. ap (λ p. stops_base p b e) k.plan ∙ s b) k.good }

  pub tells_nothing : (d : Did) → Kept w.plan past h d.world → Told w.plan past h e d.reply [] → Tells w past h e d
  tells_nothing d k t = record { is = []; kept = subst (λ l. Kept w.plan (past ++ e ∷ []) l d.world) (sym (append-nil h)) (kept_later h d.world k); told = t }

-- ---- reads
view_small : (p : Layout) (i : ℕ) (k : Datum) → IsPlan p → i < length p.views → view_shard p i k < (view_at p i).shards
view_small p i k g lt = shard_small k (view_at p i).shards some
  where
    some : (view_at p i).shards ≢ 0
    some =
        let x = there p.views i lt in
        let v = each_at (IsView p) p.views i x.0 x.1 (facts p g).views in
        let l = v.shards.least_of in
        let e : view_at p i ≡ x.0 = or_of p.views i x.0 _ x.1 in
        λ z. let y : x.0.shards ≡ 0 = ap (λ (u : ViewLayout). u.shards) (sym e) ∙ z in omega (arith, y, l)

module _ (w : World) (past : List Event) (h : List Item) (se : ℕ) (c : Caller) (name : List ℕ) (k : Datum) (at : slice_get w.callers se ≡ Some c) (g : Good w past h) where
  abbrev ev : Event
  ev = event.try_read se name k

  misses : (d : Did) → d ≡ record { world = w; reply = miss } → Tells w past h ev d
  misses d e = subst (Tells w past h ev) (sym e) (tells_nothing w past h ev (λ se. refl) (λ b. refl) (record { world = w; reply = miss }) (record { plan = refl; good = g }) refl)

  module _ (i : ℕ) (is : view_named w.plan name ≡ Some i) (lt : i < length w.plan.views) (n : Node View) (there_is : slice_get w.views (reader_of w.plan i k) ≡ Some n) where
    abbrev j : ℕ
    j = view_shard w.plan i k

    abbrev r : ℕ
    r = reader_of w.plan i k

    abbrev cut : Lengths
    cut = lengths_of n.is.cut

    abbrev x : Item
    x = item.read se i k (answer w.plan n.is.cut i k) cut

    abbrev d : Caller
    d = record { number = c.number; floors = slice_set c.floors r cut; fence = c.fence }

    lj : j < (view_at w.plan i).shards
    lj = view_small w.plan i k g.wired.good lt

    is_cut : IsCut w.plan h n.is.cut
    is_cut = cut_of w h r n g.wired g.history.logs there_is

    caller : IsCaller w.views c
    caller = each_at (IsCaller w.views) w.callers se c at g.wired.callers

    allows : AllowsRead w.plan most_sessions h se i k (answer w.plan n.is.cut i k) cut
    allows = record {
      session = subst (λ n. se < n) g.wired.sixteen (not_past w.callers se c at);
      view = lt;
      within = cut_within w.plan h n.is.cut is_cut;
      floor = λ s b. let e = g.history.floors se c at i j lt lj s b in let m = pair_at IsFloor w.views c.floors r n [] there_is caller.floors s b in omega (arith, e, m);
      answers = ap (λ f. answer w.plan f i k) (sym (cut_fronts w.plan h n.is.cut is_cut.lines));
    }

    floors_longer : r < length c.floors
    floors_longer = subst (λ n. r < n) (pair_size IsFloor w.views c.floors caller.floors) (not_past w.views r n there_is)

    other : (se2 : ℕ) → (se == se2) ≡ false → (floors : List Lengths) → AreFloors w.plan se2 h floors → AreFloors w.plan se2 (h ++ x ∷ []) floors
    other se2 apart floors f a b la lb =
        subst (λ c. IsSame c (slice_index_or floors (place_or (reader_place w.plan a b)) [])) (sym (floor_quiet w.plan se2 a b h x (ap (λ t. cond (t && ((i == a) && (j == b))) (cut ∷ []) []) apart))) (f a b la lb)

    -- at another reader, or at this one
    at_other : (xs : List Lengths) (q : ℕ) → (q ≡ r → ⊥) → slice_index_or (slice_set xs r cut) q [] ≡ slice_index_or xs q []
    at_other xs q apart = by xs r q apart
      where
        by : (xs : List Lengths) (r q : ℕ) → (q ≡ r → ⊥) → slice_index_or (slice_set xs r cut) q [] ≡ slice_index_or xs q []
        by [] r q apart = refl
        by (y ∷ xs) zero zero apart = absurd (apart refl)
        by (y ∷ xs) zero (suc q) apart = refl
        by (y ∷ xs) (suc r) zero apart = refl
        by (y ∷ xs) (suc r) (suc q) apart = by xs r q (λ e. apart (ap suc e))

    new : AreFloors w.plan se (h ++ x ∷ []) (slice_set c.floors r cut)
    new a b la lb = by ((i == a) && (j == b)) refl
      where
        by : (t : Bool) → ((i == a) && (j == b)) ≡ t → IsSame (floor_of w.plan se a b (h ++ x ∷ [])) (slice_index_or (slice_set c.floors r cut) (place_or (reader_place w.plan a b)) [])
        by true e =
            let u = both_true (i == a) (j == b) e in
            let q : reader_place w.plan a b ≡ reader_place w.plan i j = ap (λ v. reader_place w.plan v b) (sym (same_is i a u.0)) ∙ ap (reader_place w.plan i) (sym (same_is j b u.1)) in
            let old = there c.floors r floors_longer in
            let f : floor_of w.plan se a b (h ++ x ∷ []) ≡ cut = floor_push w.plan se a b h x cut (ap (λ t. cond (t && ((i == a) && (j == b))) (cut ∷ []) []) (is_same se) ∙ ap (λ t. cond t (cut ∷ []) []) e) in
            let m : slice_index_or (slice_set c.floors r cut) (place_or (reader_place w.plan a b)) [] ≡ cut =
            ap (λ o. slice_index_or (slice_set c.floors r cut) (place_or o) []) q ∙ or_of (slice_set c.floors r cut) r cut [] (set_at c.floors r cut old.0 old.1) in
            subst (IsSame (floor_of w.plan se a b (h ++ x ∷ []))) (sym m) (subst (λ c. IsSame c cut) (sym f) (λ s b. refl))
        by false e =
            let one = reader_found w.plan a b la lb in
            let two = reader_found w.plan i j lt lj in
            let apart : place_or (reader_place w.plan a b) ≡ r → ⊥ = λ z.
            let z1 : one.0 ≡ two.0 = sym (ap place_or one.1) ∙ (z ∙ ap place_or two.1) in
            let u = readers_apart w.plan i j a b two.0 two.1 (one.1 ∙ ap Some z1) in
            let v : ((i == a) && (j == b)) ≡ true = ap (λ y. (y == a) && (j == b)) u.0 ∙ (ap (λ y. (a == a) && (y == b)) u.1 ∙ rw (is_same a) (is_same b)) in
            cc in
            let f : floor_of w.plan se a b (h ++ x ∷ []) ≡ floor_of w.plan se a b h = floor_quiet w.plan se a b h x (ap (λ t. cond (t && ((i == a) && (j == b))) (cut ∷ []) []) (is_same se) ∙ ap (λ t. cond t (cut ∷ []) []) e) in
            subst (IsSame (floor_of w.plan se a b (h ++ x ∷ []))) (sym (at_other c.floors (place_or (reader_place w.plan a b)) apart))
            (subst (λ l. IsSame l (slice_index_or c.floors (place_or (reader_place w.plan a b)) [])) (sym f) (g.history.floors se c at a b la lb))

    hits : Tells w past h ev (record { world = with_callers w (slice_set w.callers se d); reply = hit (answer w.plan n.is.cut i k) cut })
    hits = record {
      is = x ∷ [];
      kept = kept_later w past h ev (λ se. refl) (λ b. refl) (h ++ x ∷ []) (with_callers w (slice_set w.callers se d)) (record {
        plan = refl;
        good = record {
          wired = wired_caller w se c d at (omega arith) (record { floors = pair_right IsFloor w.views c.floors r n cut there_is (at_most_self cut) caller.floors; acks = caller.acks }) g.wired;
          history = record {
            legal = legal_more w.plan most_sessions [] h x g.history.legal allows;
            logs = λ b n is. logs_quiet h x (λ b. (refl, refl)) b n (g.history.logs b n is);
            floors = floors_set w.plan w.callers h (h ++ x ∷ []) se d g.history.floors other new;
          };
          events = record { numbers = numbers_set w.callers past se c d at refl g.events.numbers; stops = g.events.stops };
        };
      });
      told = (i, is, refl);
    }

  looks_at : (i : ℕ) → view_named w.plan name ≡ Some i → i < length w.plan.views → (o : Option (Node View)) → slice_get w.views (reader_of w.plan i k) ≡ o → Tells w past h ev (looked w se c i k (reader_of w.plan i k) o)
  looks_at i is lt None e = misses (record { world = w; reply = miss }) refl
  looks_at i is lt (Some n) e = by (is_filled (n.is.keys.at k))
    where
      by : (b : Bool) → Tells w past h ev (cond b
          (record { world = with_callers w (slice_set w.callers se (record { number = c.number; floors = slice_set c.floors (reader_of w.plan i k) (lengths_of n.is.cut); fence = c.fence })); reply = hit (answer w.plan n.is.cut i k) (lengths_of n.is.cut) })
          (record { world = w; reply = miss }))
      by true = hits i is lt n e
      by false = misses (record { world = w; reply = miss }) refl

  tries_in : (o : Option ℕ) (r : Option Refused) → view_named w.plan name ≡ o → Tells w past h ev (try_in w se c o k r)
  tries_in o (Some r) e = tells_nothing w past h ev (λ se. refl) (λ b. refl) (record { world = w; reply = refused r }) (record { plan = refl; good = g }) refl
  tries_in None None e = misses (record { world = w; reply = miss }) refl
  tries_in (Some i) None e = looks_at i e (position_small (λ (v : ViewLayout). bytes_eq v.name name) w.plan.views i e) (slice_get w.views (reader_of w.plan i k)) refl

pub read_tells : (w : World) (past : List Event) (h : List Item) (se : ℕ) (o : Option Caller) (name : List ℕ) (k : Datum) → slice_get w.callers se ≡ o → Good w past h → Tells w past h (event.try_read se name k) (try_by w se o name k)
read_tells w past h se None name k at g = tells_nothing w past h (event.try_read se name k) (λ se. refl) (λ b. refl) (record { world = w; reply = refused UnknownPlace }) (record { plan = refl; good = g }) refl
read_tells w past h se (Some c) name k at g = tries_in w past h se c name k at g (view_named w.plan name) (read_refusal w.plan (view_named w.plan name) k) refl

-- ---- wants and counts
module _ (w : World) (past : List Event) (h : List Item) (se : ℕ) (name : List ℕ) (k : Datum) (g : Good w past h) where
  abbrev asks : Event
  asks = event.want se name k

  want_said : (d : World) (r : Refused) → Kept w.plan past h d → Tells w past h asks (record { world = d; reply = refused r })
  want_said d r kept = tells_nothing w past h asks (λ se. refl) (λ b. refl) (record { world = d; reply = refused r }) kept refl

  want_done : (d : World) → Kept w.plan past h d → Tells w past h asks (record { world = d; reply = wanted })
  want_done d kept = tells_nothing w past h asks (λ se. refl) (λ b. refl) (record { world = d; reply = wanted }) kept refl

  wants_at : (i r : ℕ) (o : Option (Node View)) → slice_get w.views r ≡ o → Tells w past h asks (wanted_at w k r o)
  wants_at i r None at = want_done w (record { plan = refl; good = g })
  wants_at i r (Some n) at = by (is_filled (n.is.keys.at k)) (n.runs && lower_run w)
    where
      by : (b u : Bool) → Tells w past h asks (cond b (record { world = w; reply = wanted })
          (cond u (record { world = (view_takes w r (Some n) (view.want k)).world; reply = wanted }) (record { world = w; reply = refused Stopped })))
      by true u = want_done w (record { plan = refl; good = g })
      by false true = want_done (view_takes w r (Some n) (view.want k)).world (rests_kept w past h r (Some n) (view.want k) at (λ v. want_rests v k) g)
      by false false = want_said w Stopped (record { plan = refl; good = g })

  wants_in : (o : Option ℕ) (r : Option Refused) → Tells w past h asks (want_in w o k r)
  wants_in o (Some r) = want_said w r (record { plan = refl; good = g })
  wants_in None None = want_done w (record { plan = refl; good = g })
  wants_in (Some i) None = wants_at i (reader_of w.plan i k) (slice_get w.views (reader_of w.plan i k)) refl

  pub want_tells : (o : Option Caller) → Tells w past h asks (want_by w o name k)
  want_tells None = want_said w UnknownPlace (record { plan = refl; good = g })
  want_tells (Some c) = wants_in (view_named w.plan name) (read_refusal w.plan (view_named w.plan name) k)

module _ (w : World) (past : List Event) (h : List Item) (se : ℕ) (name : List ℕ) (g : Good w past h) where
  abbrev counts : Event
  counts = event.count se name

  counts_in : (o : Option ℕ) (r : Option Refused) → Tells w past h counts (count_in w o r)
  counts_in o (Some r) = tells_nothing w past h counts (λ se. refl) (λ b. refl) (record { world = w; reply = refused r }) (record { plan = refl; good = g }) refl
  counts_in None None = tells_nothing w past h counts (λ se. refl) (λ b. refl) (record { world = w; reply = asked 0 }) (record { plan = refl; good = g }) refl
  counts_in (Some i) None = tells_nothing w past h counts (λ se. refl) (λ b. refl) (record { world = w; reply = asked (asked_all i w.views) }) (record { plan = refl; good = g }) refl

  pub count_tells : (o : Option Caller) → Tells w past h counts (count_by w o name)
  count_tells None = tells_nothing w past h counts (λ se. refl) (λ b. refl) (record { world = w; reply = refused UnknownPlace }) (record { plan = refl; good = g }) refl
  count_tells (Some c) = counts_in (view_named w.plan name) (view_refusal (view_named w.plan name))

-- ---- fences
pair_map : (views : List (Node View)) (rs : List Reader) → length views ≡ length rs → Pointwise IsAck views (map (λ r. None) rs)
pair_map [] [] e = tt
pair_map [] (r ∷ rs) e = cc
pair_map (v ∷ views) [] e = cc
pair_map (v ∷ views) (r ∷ rs) e = (tt, pair_map views rs (omega (arith, e)))

pub fence_tells : (w : World) (past : List Event) (h : List Item) (se : ℕ) (o : Option Caller) → slice_get w.callers se ≡ o → Good w past h → Tells w past h (event.fence se) (fence_by w se o)
fence_tells w past h se None at g = record {
  is = [];
  kept = record { plan = refl; good = subst (Good w (past ++ event.fence se ∷ [])) (sym (append-nil h)) (good_unknown w past h se (event.fence se) at (λ i. refl) (λ b. refl) g) };
  told = refl;
}
fence_tells w past h se (Some c) at g = by (lower_run w && all_run w.views)
  where
    opened : Good (with_callers w (slice_set w.callers se (counted c (Some (record { number = c.number; acks = map (λ r. None) (readers w.plan) }))))) (past ++ event.fence se ∷ []) h
    opened =
        let i = each_at (IsCaller w.views) w.callers se c at g.wired.callers in
        good_counted w past h se c (event.fence se) (Some (record { number = c.number; acks = map (λ r. None) (readers w.plan) })) at (λ i. refl) (λ b. refl)
        (record { floors = i.floors; acks = pair_map w.views (readers w.plan) (sym (readers_size w.views) ∙ ap length g.wired.viewed) }) g

    by : (b : Bool) → Tells w past h (event.fence se) (cond b
        (record {
          world = marked (with_callers w (slice_set w.callers se (record { number = suc c.number; floors = c.floors; fence = Some (record { number = c.number; acks = map (λ r. None) (readers w.plan) }) })))
              (sources w.plan) (record { session = se; number = c.number });
          reply = fence_sent;
        })
        (record { world = numbered w se c; reply = refused Stopped }))
    by true = record {
      is = [];
      kept = subst (λ l. Kept w.plan (past ++ event.fence se ∷ []) l (marked (with_callers w (slice_set w.callers se (counted c (Some (record { number = c.number; acks = map (λ r. None) (readers w.plan) }))))) (sources w.plan) (record { session = se; number = c.number }))) (sym (append-nil h))
          (kept_marked w.plan (past ++ event.fence se ∷ []) h (sources w.plan) (record { session = se; number = c.number }) (with_callers w (slice_set w.callers se (counted c (Some (record { number = c.number; acks = map (λ r. None) (readers w.plan) }))))) (record { plan = refl; good = opened }));
      told = refl;
    }
    by false =
        let i = each_at (IsCaller w.views) w.callers se c at g.wired.callers in
        record {
          is = [];
          kept = record {
            plan = refl;
            good = subst (Good (numbered w se c) (past ++ event.fence se ∷ [])) (sym (append-nil h))
                (good_counted w past h se c (event.fence se) c.fence at (λ i. refl) (λ b. refl) (record { floors = i.floors; acks = i.acks }) g);
          };
          told = refl;
        }

-- ---- orders
module _ (w : World) (past : List Event) (h : List Item) (e : Event) (n : (se : ℕ) → is_numbered se e ≡ false) (s : (b : ℕ) → stops_base w.plan b e ≡ false)
    (no : (r : Refused) → Told w.plan past h e (refused r) []) (yes : Told w.plan past h e evicted []) (k : Datum) (g : Good w past h) where
  order_said : (r : Refused) → Tells w past h e (record { world = w; reply = refused r })
  order_said r = tells_nothing w past h e n s (record { world = w; reply = refused r }) (record { plan = refl; good = g }) (no r)

  stage_ordered : (i : ℕ) (o : Option (Node Stage)) → slice_get w.stages i ≡ o → Tells w past h e (stage_order w k i o)
  stage_ordered i None at = order_said UnknownPlace
  stage_ordered i (Some m) at = by m.runs
    where
      by : (b : Bool) → Tells w past h e (cond b (record { world = stage_takes w i (Some m) (stage.order k); reply = evicted }) (record { world = w; reply = refused Stopped }))
      by true = tells_nothing w past h e n s (record { world = stage_takes w i (Some m) (stage.order k); reply = evicted }) (takes_order w past h i (Some m) k at g) yes
      by false = order_said Stopped

  view_ordered : (r : ℕ) (o : Option (Node View)) → slice_get w.views r ≡ o → Tells w past h e (view_order w k r o)
  view_ordered r None at = order_said UnknownPlace
  view_ordered r (Some m) at = by m.runs
    where
      by : (b : Bool) → Tells w past h e (cond b (record { world = (view_takes w r (Some m) (view.order k)).world; reply = evicted }) (record { world = w; reply = refused Stopped }))
      by true = tells_nothing w past h e n s (record { world = (view_takes w r (Some m) (view.order k)).world; reply = evicted }) (rests_kept w past h r (Some m) (view.order k) at (λ v. order_rests v k) g) yes
      by false = order_said Stopped

  pub evicts_stage : (r : Option Refused) → Tells w past h e (evict_stage_in w k r)
  evicts_stage (Some r) = order_said r
  evicts_stage None = stage_ordered (shard k w.plan.stages) (slice_get w.stages (shard k w.plan.stages)) refl

  pub evicts_view : (o : Option ℕ) (r : Option Refused) → Tells w past h e (evict_view_in w o k r)
  evicts_view o (Some r) = order_said r
  evicts_view None None = order_said UnknownPlace
  evicts_view (Some i) None = view_ordered (reader_of w.plan i k) (slice_get w.views (reader_of w.plan i k)) refl

-- ---- stops
-- the entries are as they were
entries_off : (bases : List (Node Base)) (b : ℕ) (n : Node Base) (c : ℕ) → slice_get bases b ≡ Some n → entries_at (slice_set bases b (off n)) c ≡ entries_at bases c
entries_off [] b n c at = cc
entries_off (m ∷ bases) zero n zero at = let e : m ≡ n = cc in ap (λ (x : Node Base). x.is.entries) (sym e)
entries_off (m ∷ bases) zero n (suc c) at = refl
entries_off (m ∷ bases) (suc b) n zero at = refl
entries_off (m ∷ bases) (suc b) n (suc c) at = entries_off bases b n c at

logs_off : (bases : List (Node Base)) (b : ℕ) (n : Node Base) (xs : List ℕ) → slice_get bases b ≡ Some n → map (entries_at (slice_set bases b (off n))) xs ≡ map (entries_at bases) xs
logs_off bases b n [] at = refl
logs_off bases b n (x ∷ xs) at = let a = entries_off bases b n x at in let r = logs_off bases b n xs at in cc

module _ (w : World) (past : List Event) (h : List Item) (g : Good w past h) where
  -- where the base shard that it names stops, or none
  stop_base : (b : ℕ) (o : Option (Node Base)) (e : Event) → slice_get w.bases b ≡ o → ((se : ℕ) → is_numbered se e ≡ false) → ((i : ℕ) → stops_base w.plan i e ≡ (b == i))
      → Good (record { plan = w.plan; bases = off_at b o w.bases; stages = w.stages; views = w.views; to_stage = w.to_stage; to_view = w.to_view; from_view = w.from_view; to_base = w.to_base; callers = w.callers }) (past ++ e ∷ []) h
  stop_base b None e at n s = record {
    wired = g.wired;
    history = g.history;
    events = record {
      numbers = λ se c is. g.events.numbers se c is ∙ sym (number_more se past e false (n se));
      stops = λ i m is. g.events.stops i m is ∙ sym (stop_more w.plan i past e ∙ or_false (has_stopped w.plan i past) (stops_base w.plan i e) (s i ∙ other i m is (b == i) refl));
    };
  }
    where
      other : (i : ℕ) (m : Node Base) → slice_get w.bases i ≡ Some m → (t : Bool) → (b == i) ≡ t → t ≡ false
      other i m is true e = let z = same_is b i e in let q : slice_get w.bases b ≡ Some m = ap (slice_get w.bases) z ∙ is in cc
      other i m is false e = refl
  stop_base b (Some n) e at k s = record {
    wired = record {
      good = g.wired.good;
      bases = λ i m is. base i m (got w.bases b (off n) i m is);
      counted = set_size w.bases b (off n) ∙ g.wired.counted;
      staged = g.wired.staged;
      planned = g.wired.planned;
      viewed = g.wired.viewed;
      lines = subst (Edges IsBaseRun IsPrefix (λ (s : Stage). s.line) w.stages w.to_stage) (sym (logs_off w.bases b n (sources w.plan) at)) g.wired.lines;
      cuts = g.wired.cuts;
      callers = g.wired.callers;
      sixteen = g.wired.sixteen;
    };
    history = record { legal = g.history.legal; logs = λ i m is. log i m (got w.bases b (off n) i m is); floors = g.history.floors };
    events = record {
      numbers = λ se c is. g.events.numbers se c is ∙ sym (number_more se past e false (k se));
      stops = λ i m is. stop i m (got w.bases b (off n) i m is);
    };
  }
    where
      base : (i : ℕ) (m : Node Base) → ((i ≡ b) × (m ≡ off n)) ⊎ (((b == i) ≡ false) × (slice_get w.bases i ≡ Some m)) → IsBase w.plan w.callers i m
      base i m (inl r) =
          let o = g.wired.bases b n at in
          subst (λ j. IsBase w.plan w.callers j m) (sym r.0) (subst (IsBase w.plan w.callers b) (sym r.1) (record { plan = o.plan; base = o.base; range = o.range; log = o.log; authors = o.authors; numbers = o.numbers }))
      base i m (inr r) = g.wired.bases i m r.1

      log : (i : ℕ) (m : Node Base) → ((i ≡ b) × (m ≡ off n)) ⊎ (((b == i) ≡ false) × (slice_get w.bases i ≡ Some m)) → IsLogOf h i m
      log i m (inl r) = let o = g.history.logs b n at in subst (λ j. IsLogOf h j m) (sym r.0) (subst (IsLogOf h b) (sym r.1) (record { log = o.log; authors = o.authors }))
      log i m (inr r) = g.history.logs i m r.1

      or_true : (x y : Bool) → y ≡ true → true ≡ (x || y)
      or_true true y e = refl
      or_true false y e = sym e

      stop : (i : ℕ) (m : Node Base) → ((i ≡ b) × (m ≡ off n)) ⊎ (((b == i) ≡ false) × (slice_get w.bases i ≡ Some m)) → not m.runs ≡ has_stopped w.plan i (past ++ e ∷ [])
      stop i m (inl r) = ap (λ (x : Node Base). not x.runs) r.1 ∙ (or_true (has_stopped w.plan i past) (stops_base w.plan i e) (s i ∙ (ap (λ j. b == j) r.0 ∙ is_same b)) ∙ sym (stop_more w.plan i past e))
      stop i m (inr r) = g.events.stops i m r.1 ∙ sym (stop_more w.plan i past e ∙ or_false (has_stopped w.plan i past) (stops_base w.plan i e) (s i ∙ r.0))

  stop_stage : (i : ℕ) (o : Option (Node Stage)) → slice_get w.stages i ≡ o
      → Good (record { plan = w.plan; bases = w.bases; stages = off_at i o w.stages; views = w.views; to_stage = w.to_stage; to_view = w.to_view; from_view = w.from_view; to_base = w.to_base; callers = w.callers }) past h
  stop_stage i None at = g
  stop_stage i (Some n) at = record {
    wired = record {
      good = g.wired.good;
      bases = g.wired.bases;
      counted = g.wired.counted;
      staged = set_size w.stages i (off n) ∙ g.wired.staged;
      planned = each_set (λ (n : Node Stage). n.is.plan ≡ w.plan) w.stages i (off n) (each_at (λ (n : Node Stage). n.is.plan ≡ w.plan) w.stages i n at g.wired.planned) g.wired.planned;
      viewed = g.wired.viewed;
      lines = edges_off IsBaseRun IsPrefix base_runs (λ (s : Stage). s.line) w.stages w.to_stage (source_logs w.plan w.bases) i n at g.wired.lines;
      cuts = subst (Edges IsRun Grows (λ (v : View). v.cut) w.views w.to_view) (sym (map_same (λ (n : Node Stage). n.is.line) w.stages i n (off n) at refl)) g.wired.cuts;
      callers = g.wired.callers;
      sixteen = g.wired.sixteen;
    };
    history = g.history;
    events = g.events;
  }

  stop_view : (i : ℕ) (o : Option (Node View)) → slice_get w.views i ≡ o
      → Good (record { plan = w.plan; bases = w.bases; stages = w.stages; views = off_at i o w.views; to_stage = w.to_stage; to_view = w.to_view; from_view = w.from_view; to_base = w.to_base; callers = w.callers }) past h
  stop_view i None at = g
  stop_view i (Some n) at = record {
    wired = record {
      cuts = edges_off IsRun Grows stage_runs (λ (v : View). v.cut) w.views w.to_view (lines_of w.stages) i n at g.wired.cuts;
      good = g.wired.good;
      bases = g.wired.bases;
      counted = g.wired.counted;
      staged = g.wired.staged;
      planned = g.wired.planned;
      viewed = map_same (λ (n : Node View). record { view = n.is.view; shard = n.is.shard }) w.views i n (off n) at refl ∙ g.wired.viewed;
      lines = g.wired.lines;
      callers = callers_more w.views i n (off n) w.callers at (at_most_self (lengths_of n.is.cut)) g.wired.callers;
      sixteen = g.wired.sixteen;
    };
    history = g.history;
    events = g.events;
  }

  no_place : (d : DomainId) → is_there w.plan d ≡ false → Tells w past h (event.stop (Some d)) (record { world = w; reply = refused UnknownPlace })
  no_place d e = tells_nothing w past h (event.stop (Some d)) (λ se. refl) (λ b. ap (λ t. t && is_base w.plan b d) e) (record { world = w; reply = refused UnknownPlace }) (record { plan = refl; good = g }) refl

  stops_one : (d : DomainId) → is_there w.plan d ≡ true → Tells w past h (event.stop (Some d)) (record { world = stops w d; reply = stopped })
  stops_one (domain.Base t n) e = record {
    is = [];
    kept = record {
      plan = refl;
      good = subst (Good (stops w (domain.Base t n)) (past ++ event.stop (Some (domain.Base t n)) ∷ [])) (sym (append-nil h))
          (stop_base (base_at w.plan t n) (slice_get w.bases (base_at w.plan t n)) (event.stop (Some (domain.Base t n))) refl (λ se. refl) (λ i. ap (λ x. x && (base_at w.plan t n == i)) e));
    };
    told = refl;
  }
  stops_one (domain.Stage s) e = tells_nothing w past h (event.stop (Some (domain.Stage s))) (λ se. refl) (λ b. ap (λ x. x && false) e) (record { world = stops w (domain.Stage s); reply = stopped })
      (record { plan = refl; good = stop_stage s (slice_get w.stages s) refl }) refl
  stops_one (domain.View i j) e = tells_nothing w past h (event.stop (Some (domain.View i j))) (λ se. refl) (λ b. ap (λ x. x && false) e) (record { world = stops w (domain.View i j); reply = stopped })
      (record { plan = refl; good = stop_view (place_or (reader_place w.plan i j)) (slice_get w.views (place_or (reader_place w.plan i j))) refl }) refl

  pub stop_tells : (o : Option DomainId) → Tells w past h (event.stop o) (stop_at w o)
  stop_tells None = tells_nothing w past h (event.stop None) (λ se. refl) (λ b. refl) (record { world = w; reply = refused UnknownPlace }) (record { plan = refl; good = g }) refl
  stop_tells (Some d) = by (is_there w.plan d) refl
    where
      by : (t : Bool) → is_there w.plan d ≡ t → Tells w past h (event.stop (Some d)) (cond t (record { world = stops w d; reply = stopped }) (record { world = w; reply = refused UnknownPlace }))
      by true e = stops_one d e
      by false e = no_place d e

  -- ---- deliveries and settle
  pub deliver_tells : (edge : Option Edge) (o : Option Wire) → Tells w past h (event.deliver edge) (on_edge w o)
  deliver_tells edge None = tells_nothing w past h (event.deliver edge) (λ se. refl) (λ b. refl) (record { world = w; reply = refused UnknownPlace }) (record { plan = refl; good = g }) refl
  deliver_tells edge (Some wire) =
      let d = delivers w past h wire g in
      record { is = d.is; kept = kept_later w past h (event.deliver edge) (λ se. refl) (λ b. refl) (h ++ d.is) (on_edge w (Some wire)).world d.kept; told = d.ended }

  pub settle_tells : (n : ℕ) → Tells w past h event.settle (rounds n w [])
  settle_tells n =
      let d = settles w past h n g in
      record { is = d.is; kept = kept_later w past h event.settle (λ se. refl) (λ b. refl) (h ++ d.is) (rounds n w []).world d.kept; told = d.ended }
