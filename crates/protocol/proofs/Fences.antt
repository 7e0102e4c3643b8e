-- A view shard takes a message, and a fence ends.
use Rattle.std.proofs.Common.{◌≡◌, ℕ, ◌==◌, ◌<◌, ◌≤◌, Bool, true, false, cond, List, [], ◌∷◌, ◌++◌, map, flat_map, length, slice_get, slice_set, slice_index_or, Option, Some, None, is_some, refl, ap, sym, ◌∙◌, subst, arith, append-nil, ◌⊎◌, inl, inr}
use Rattle.std.specs.List.{list_all, range_with_len}
use Rattle.std.proofs.lemmas.List.Concat.{flat_map-append}
use Rattle.std.proofs.lemmas.List.FromFn.{get_or-map-range_with_len}
use Rattle.row.specs.Bags.{Each}
use Rattle.plan.specs.Layouts.{Layout, view_at}
use Rattle.model.specs.Histories as item
use Rattle.protocol.specs.Views as view
use Rattle.protocol.specs.ViewSteps as on_view
use Rattle.row.specs.declared.refused.Refused.TheVariants.{Behind}
use Rattle.model.specs.Places.{sources}
use Rattle.model.specs.Queries.{Line}
use Rattle.model.specs.Histories.{Item, Place, Lengths, IsSame, Floors, len_at, floor_at, floor_of, floor_in, last_or, entry_in, author_in, log_of, authors_of}
use Rattle.model.specs.Cuts.{IsAtMost, IsWithin}
use Rattle.protocol.proofs.Wired.{with_callers, IsLogOf, AreFloors, Edges, Led, Three, lines_of, IsCaller, IsFloor, IsAck, AreAcks, Good}
use Rattle.model.specs.Legal.{IsPast, AllowsFence, most_sessions}
use Rattle.model.proofs.Growth.{legal_more, at_most_self}
use Rattle.packet.specs.Readers.{readers, is_reader}
use Rattle.packet.specs.Messages.{Sent, Mark}
use Rattle.packet.specs.Truth.{Pointwise, Grows}
use Rattle.protocol.proofs.Leading.{IsRun}
use Rattle.protocol.specs.Bases.{Base}
use Rattle.protocol.specs.Views.{View}
use Rattle.protocol.specs.Worlds.{Node, World, Caller, Fence}
use Rattle.protocol.specs.Events.{Event, delivered, fenced, refused}
use Rattle.protocol.specs.Theorem.{own_places, number_in}
use Rattle.protocol.specs.WorldSteps.{says, with_caller, lengths_of, view_did, view_takes, acked, ack_from, ack_of, fence_told, raised, greatest, is_covered, covers, stage_came}
use Rattle.protocol.specs.Edges.{place_or, reader_place, with_queue, queue}
use Rattle.protocol.proofs.Lists.{each_at, set_none, set_at, got, pair_at, pair_none, pair_size, pair_right, or_of}
use Rattle.protocol.proofs.EdgeLaws.{edges_lost, edges_taken, edges_same, three_next}
use Rattle.protocol.proofs.Parts.{Rests}
use Rattle.protocol.proofs.Spots.{reader_found, found, is_same}
use Rattle.protocol.proofs.Moves.{wired_view, wired_edges, wired_caller, with_edges, cut_len, cut_set, readers_size}
use Rattle.protocol.proofs.Within.{IsCut, cut_of, cut_within, there, not_past}
use Rattle.protocol.proofs.Owns.{each_in, each_true, own_written, covers_past, great_first, great_second, great_within, great_most}
use Rattle.protocol.proofs.Keeps.{Kept, Ends, silent}

-- ---- one session changes
pub floors_set : (p : Layout) (callers : List Caller) (h g : List Item) (se : ℕ) (d : Caller) → ((i : ℕ) (c : Caller) → slice_get callers i ≡ Some c → AreFloors p i h c.floors)
    → ((i : ℕ) → (se == i) ≡ false → (floors : List Lengths) → AreFloors p i h floors → AreFloors p i g floors) → AreFloors p se g d.floors
    → (i : ℕ) (c : Caller) → slice_get (slice_set callers se d) i ≡ Some c → AreFloors p i g c.floors
floors_set p callers h g se d all other new i c at = by (got callers se d i c at)
  where
    by : ((i ≡ se) × (c ≡ d)) ⊎ (((se == i) ≡ false) × (slice_get callers i ≡ Some c)) → AreFloors p i g c.floors
    by (inl r) = subst (λ (e : Caller). AreFloors p i g e.floors) (sym r.1) (subst (λ k. AreFloors p k g d.floors) (sym r.0) new)
    by (inr r) = other i r.0 c.floors (all i c r.1)

pub numbers_set : (callers : List Caller) (past : List Event) (se : ℕ) (c d : Caller) → slice_get callers se ≡ Some c → d.number ≡ c.number → ((i : ℕ) (c : Caller) → slice_get callers i ≡ Some c → c.number ≡ number_in i past)
    → (i : ℕ) (e : Caller) → slice_get (slice_set callers se d) i ≡ Some e → e.number ≡ number_in i past
numbers_set callers past se c d is same all i e at = by (got callers se d i e at)
  where
    by : ((i ≡ se) × (e ≡ d)) ⊎ (((se == i) ≡ false) × (slice_get callers i ≡ Some e)) → e.number ≡ number_in i past
    by (inl r) = ap (λ (x : Caller). x.number) r.1 ∙ (same ∙ (all se c is ∙ ap (λ k. number_in k past) (sym r.0)))
    by (inr r) = all i e r.1

-- its number and floors stay
pub good_caller : (w : World) (past : List Event) (h : List Item) (se : ℕ) (c d : Caller) → slice_get w.callers se ≡ Some c → d.number ≡ c.number → d.floors ≡ c.floors → IsCaller w.views d → Good w past h
    → Good (with_callers w (slice_set w.callers se d)) past h
good_caller w past h se c d at number floors is g = record {
  wired = wired_caller w se c d at (omega (arith, number)) is g.wired;
  history = record {
    legal = g.history.legal;
    logs = g.history.logs;
    floors = floors_set w.plan w.callers h h se d g.history.floors (λ i apart fs a. a) (subst (AreFloors w.plan se h) (sym floors) (g.history.floors se c at));
  };
  events = record { numbers = numbers_set w.callers past se c d at number g.events.numbers; stops = g.events.stops };
}

-- ---- floors by view, from floors by reader
abbrev pub floors_by : Layout → List Lengths → Floors
floors_by p xs = map (λ i. map (λ j. slice_index_or xs (place_or (reader_place p i j)) []) (range_with_len 0 (view_at p i).shards)) (range_with_len 0 (length p.views))

floors_at : (p : Layout) (xs : List Lengths) (i j : ℕ) → i < length p.views → j < (view_at p i).shards → floor_at (floors_by p xs) i j ≡ slice_index_or xs (place_or (reader_place p i j)) []
floors_at p xs i j li lj =
    ap (λ l. slice_index_or l j []) (get_or-map-range_with_len (λ i. map (λ j. slice_index_or xs (place_or (reader_place p i j)) []) (range_with_len 0 (view_at p i).shards)) 0 (length p.views) i i [] li (omega arith))
    ∙ get_or-map-range_with_len (λ j. slice_index_or xs (place_or (reader_place p i j)) []) 0 (view_at p i).shards j j [] lj (omega arith)

-- ---- a fence in the history
pub last_push : {A : Type 0} (d : A) (xs : List A) (x : A) → last_or d (xs ++ x ∷ []) ≡ x
last_push d [] x = refl
last_push d (y ∷ xs) x = last_push y xs x

pub log_quiet : (b : ℕ) (h : List Item) (i : Item) → entry_in b i ≡ [] → log_of b (h ++ i ∷ []) ≡ log_of b h
log_quiet b h i e = flat_map-append (entry_in b) h (i ∷ []) ∙ (ap (λ l. log_of b h ++ (l ++ [])) e ∙ append-nil (log_of b h))

pub authors_quiet : (b : ℕ) (h : List Item) (i : Item) → author_in b i ≡ [] → authors_of b (h ++ i ∷ []) ≡ authors_of b h
authors_quiet b h i e = flat_map-append (author_in b) h (i ∷ []) ∙ (ap (λ l. authors_of b h ++ (l ++ [])) e ∙ append-nil (authors_of b h))

pub floor_quiet : (p : Layout) (me i j : ℕ) (h : List Item) (x : Item) → floor_in p me i j x ≡ [] → floor_of p me i j (h ++ x ∷ []) ≡ floor_of p me i j h
floor_quiet p me i j h x e = ap (last_or []) (flat_map-append (floor_in p me i j) h (x ∷ []) ∙ (ap (λ l. flat_map (floor_in p me i j) h ++ (l ++ [])) e ∙ append-nil (flat_map (floor_in p me i j) h)))

pub floor_push : (p : Layout) (me i j : ℕ) (h : List Item) (x : Item) (c : Lengths) → floor_in p me i j x ≡ c ∷ [] → floor_of p me i j (h ++ x ∷ []) ≡ c
floor_push p me i j h x c e = ap (last_or []) (flat_map-append (floor_in p me i j) h (x ∷ []) ∙ ap (λ l. flat_map (floor_in p me i j) h ++ (l ++ [])) e) ∙ last_push [] (flat_map (floor_in p me i j) h) c

pub logs_quiet : (h : List Item) (x : Item) → ((b : ℕ) → (entry_in b x ≡ []) × (author_in b x ≡ [])) → (b : ℕ) (n : Node Base) → IsLogOf h b n → IsLogOf (h ++ x ∷ []) b n
logs_quiet h x e b n l = record { log = log_quiet b h x (e b).0 ∙ l.log; authors = authors_quiet b h x (e b).1 ∙ l.authors }

-- ---- what is raised
record IsRaised (p : Layout) (h : List Item) (own : List Place) (floor x : Lengths) : Type 0 where
  within : IsWithin p h x
  more : IsAtMost floor x
  past : Each (IsPast p x) own

abbrev Raises : World → List Item → ℕ → Type 0
Raises w h se = (cut x : Lengths) → covers w se cut ≡ true → ((s j : ℕ) → s < w.plan.stages → j < length (sources w.plan) → len_at cut s j ≤ len_at x s j) → Each (IsPast w.plan x) (own_places w.plan h se)

raised_all : (w : World) (h : List Item) (se : ℕ) → Raises w h se → (views : List (Node View)) (floors : List Lengths) (acks : List (Option Lengths)) → Each (λ (n : Node View). IsCut w.plan h n.is.cut) views
    → Pointwise IsFloor views floors → Pointwise IsAck views acks → Each (λ a. is_some a ≡ true) acks → Each (λ a. is_covered w se a ≡ true) acks
    → Pointwise (IsRaised w.plan h (own_places w.plan h se)) floors (raised w.plan floors acks) × Pointwise IsFloor views (raised w.plan floors acks)
raised_all w h se over [] [] acks c f a some all = (tt, tt)
raised_all w h se over [] (x ∷ floors) acks c f a some all = absurd f
raised_all w h se over (n ∷ views) [] acks c f a some all = absurd f
raised_all w h se over (n ∷ views) (x ∷ floors) [] c f a some all = absurd a
raised_all w h se over (n ∷ views) (x ∷ floors) (None ∷ acks) c f a some all = cc (some.0)
raised_all w h se over (n ∷ views) (x ∷ floors) (Some cut ∷ acks) c f a some all =
    let l = cut_within w.plan h n.is.cut c.0 in
    let r = raised_all w h se over views floors acks c.1 f.1 a.1 some.1 all.1 in (
      (
        record {
          within = great_within w.plan h x cut (lengths_of n.is.cut) l f.0 a.0;
          more = great_first w.plan h x cut (lengths_of n.is.cut) l f.0;
          past = over cut (greatest w.plan x cut) all.0 (great_second w.plan x cut);
        },
        r.0,
      ),
      (most x cut (lengths_of n.is.cut) f.0 a.0, r.1),
    )
  where
    most : (c d l : Lengths) → IsAtMost c l → IsAtMost d l → IsAtMost (greatest w.plan c d) l
    most c d l m k s j = great_most w.plan c d (len_at l s j) s j (m s j) (k s j)

-- a reader's place
reader_small : (p : Layout) (i j r : ℕ) → reader_place p i j ≡ Some r → r < length (readers p)
reader_small p i j r e = let f = found (is_reader i j) (readers p) r e in not_past (readers p) r f.it f.at

-- the last acknowledgement ends the fence
module _ (w : World) (past : List Event) (h : List Item) (se : ℕ) (c : Caller) (acks : List (Option Lengths)) (g : Good w past h) (at : slice_get w.callers se ≡ Some c) (a : Pointwise IsAck w.views acks)
    (some : list_all is_some acks ≡ true) (all : list_all (is_covered w se) acks ≡ true) where
  abbrev own : List Place
  own = own_places w.plan h se

  abbrev high : List Lengths
  high = raised w.plan c.floors acks

  abbrev ended : Item
  ended = item.fence se own (floors_by w.plan high)

  abbrev after : Caller
  after = record { number = c.number; floors = high; fence = None }

  raises : Pointwise (IsRaised w.plan h own) c.floors high × Pointwise IsFloor w.views high
  raises = raised_all w h se (λ cut x e more. covers_past w h se cut x g.wired g.history.logs e more) w.views c.floors acks
      (each_in (λ (n : Node View). IsCut w.plan h n.is.cut) w.views (λ i n is. cut_of w h i n g.wired g.history.logs is))
      (each_at (IsCaller w.views) w.callers se c at g.wired.callers).floors a (each_true is_some acks some) (each_true (is_covered w se) acks all)

  -- at one shard of a view
  record AtReader (i j : ℕ) : Type 0 where
    floor : Lengths
    is : IsRaised w.plan h own floor (floor_at (floors_by w.plan high) i j)
    same : IsSame (floor_of w.plan se i j h) floor

  at_reader : (i j : ℕ) → i < length w.plan.views → j < (view_at w.plan i).shards → AtReader i j
  at_reader i j li lj =
      let r = reader_found w.plan i j li lj in
      let small : r.0 < length c.floors = subst (λ n. r.0 < n) (ap length (sym g.wired.viewed) ∙ (readers_size w.views ∙ pair_size IsFloor w.views c.floors (each_at (IsCaller w.views) w.callers se c at g.wired.callers).floors)) (reader_small w.plan i j r.0 r.1) in
      let f = there c.floors r.0 small in
      record {
        floor = f.0;
        is = subst (IsRaised w.plan h own f.0) (sym (floors_at w.plan high i j li lj ∙ ap (λ o. slice_index_or high (place_or o) []) r.1)) (pair_at (IsRaised w.plan h own) c.floors high r.0 f.0 [] f.1 raises.0);
        same = subst (IsSame (floor_of w.plan se i j h)) (ap (λ o. slice_index_or c.floors (place_or o) []) r.1 ∙ or_of c.floors r.0 f.0 [] f.1) (g.history.floors se c at i j li lj);
      }

  allowed : AllowsFence w.plan most_sessions h se own (floors_by w.plan high)
  allowed = record {
    session = subst (λ n. se < n) g.wired.sixteen (not_past w.callers se c at);
    within = λ i j li lj. (at_reader i j li lj).is.within;
    floor = λ i j li lj s b. let r = at_reader i j li lj in let e = r.same s b in let m = r.is.more s b in omega (arith, e, m);
    past = λ i j li lj. (at_reader i j li lj).is.past;
    written = own_written w.plan h se;
  }

  other : (i : ℕ) → (se == i) ≡ false → (floors : List Lengths) → AreFloors w.plan i h floors → AreFloors w.plan i (h ++ ended ∷ []) floors
  other i apart floors f k j lk lj =
      subst (λ c. IsSame c (slice_index_or floors (place_or (reader_place w.plan k j)) [])) (sym (floor_quiet w.plan i k j h ended (ap (λ t. cond t (floor_at (floors_by w.plan high) k j ∷ []) []) apart))) (f k j lk lj)

  new : AreFloors w.plan se (h ++ ended ∷ []) high
  new i j li lj =
      subst (λ c. IsSame c (slice_index_or high (place_or (reader_place w.plan i j)) []))
      (sym (floor_push w.plan se i j h ended (floor_at (floors_by w.plan high) i j) (ap (λ t. cond t (floor_at (floors_by w.plan high) i j ∷ []) []) (is_same se)) ∙ floors_at w.plan high i j li lj))
      (λ s b. refl)

  fence_ends : Ends w.plan past h (says (with_caller w se after) (fenced se))
  fence_ends = record {
    is = ended ∷ [];
    kept = record {
      plan = refl;
      good = record {
        wired = wired_caller w se c after at (omega arith) (record { floors = raises.1; acks = tt }) g.wired;
        history = record {
          legal = legal_more w.plan most_sessions [] h ended g.history.legal allowed;
          logs = λ b n is. logs_quiet h ended (λ b. (refl, refl)) b n (g.history.logs b n is);
          floors = floors_set w.plan w.callers h (h ++ ended ∷ []) se after g.history.floors other new;
        };
        events = record { numbers = numbers_set w.callers past se c after at refl g.events.numbers; stops = g.events.stops };
      };
    };
    ended = (floors_by w.plan high, refl);
    fences = (floors_by w.plan high, [], refl, refl);
  }

-- ---- an acknowledgement
fence_tells : (w : World) (past : List Event) (h : List Item) (se : ℕ) (c : Caller) (number : ℕ) (acks : List (Option Lengths)) → Good w past h → slice_get w.callers se ≡ Some c → Pointwise IsAck w.views acks
    → Ends w.plan past h (fence_told w se c number acks)
fence_tells w past h se c number acks g at a = by (list_all is_some acks) refl (list_all (is_covered w se) acks) refl
  where
    by : (s : Bool) → list_all is_some acks ≡ s → (t : Bool) → list_all (is_covered w se) acks ≡ t → Ends w.plan past h
        (cond s
        (cond t (says (with_caller w se (record c { floors = raised w.plan c.floors acks; fence = None })) (fenced se)) (says (with_caller w se (record c { fence = None })) (refused Behind)))
        (record { world = with_callers w (slice_set w.callers se (record { number = c.number; floors = c.floors; fence = Some (record { number = number; acks = acks }) })); reply = delivered }))
    by true e true f = fence_ends w past h se c acks g at a e f
    by true e false f = silent w.plan past h (says (with_caller w se (record c { fence = None })) (refused Behind))
        (record { plan = refl; good = good_caller w past h se c (record { number = c.number; floors = c.floors; fence = None }) at refl refl (record { floors = (each_at (IsCaller w.views) w.callers se c at g.wired.callers).floors; acks = tt }) g }) refl refl
    by false e t f = silent w.plan past h (record { world = with_callers w (slice_set w.callers se (record { number = c.number; floors = c.floors; fence = Some (record { number = number; acks = acks }) })); reply = delivered })
        (record { plan = refl; good = good_caller w past h se c (record { number = c.number; floors = c.floors; fence = Some (record { number = number; acks = acks }) }) at refl refl (record { floors = (each_at (IsCaller w.views) w.callers se c at g.wired.callers).floors; acks = a }) g }) refl refl

acked_of : (w : World) (past : List Event) (h : List Item) (se : ℕ) (c : Caller) (o : Option Fence) (number r : ℕ) (v : Node View) → Good w past h → slice_get w.callers se ≡ Some c → slice_get w.views r ≡ Some v → AreAcks w.views o
    → Ends w.plan past h (ack_of w se c o number r (lengths_of v.is.cut))
acked_of w past h se c None number r v g at is acks = silent w.plan past h (record { world = w; reply = delivered }) (record { plan = refl; good = g }) refl refl
acked_of w past h se c (Some f) number r v g at is acks = by (f.number == number)
  where
    by : (b : Bool) → Ends w.plan past h (cond b (fence_told w se c number (slice_set f.acks r (Some (lengths_of v.is.cut)))) (record { world = w; reply = delivered }))
    by true = fence_tells w past h se c number (slice_set f.acks r (Some (lengths_of v.is.cut))) g at (pair_right IsAck w.views f.acks r v (Some (lengths_of v.is.cut)) is (at_most_self (lengths_of v.is.cut)) acks)
    by false = silent w.plan past h (record { world = w; reply = delivered }) (record { plan = refl; good = g }) refl refl

acked_from : (w : World) (past : List Event) (h : List Item) (se : ℕ) (o : Option Caller) (number r : ℕ) (v : Node View) → Good w past h → slice_get w.callers se ≡ o → slice_get w.views r ≡ Some v
    → Ends w.plan past h (ack_from w se o number r (lengths_of v.is.cut))
acked_from w past h se None number r v g at is = silent w.plan past h (record { world = w; reply = delivered }) (record { plan = refl; good = g }) refl refl
acked_from w past h se (Some c) number r v g at is = acked_of w past h se c c.fence number r v g at is (each_at (IsCaller w.views) w.callers se c at g.wired.callers).acks

acked_ends : (w : World) (past : List Event) (h : List Item) (r : ℕ) (v : Node View) (ms : List Mark) → Good w past h → slice_get w.views r ≡ Some v → Ends w.plan past h (acked w r ms (lengths_of v.is.cut))
acked_ends w past h r v [] g is = silent w.plan past h (record { world = w; reply = delivered }) (record { plan = refl; good = g }) refl refl
acked_ends w past h r v (m ∷ ms) g is = acked_from w past h m.session (slice_get w.callers m.session) m.number r v g refl is

-- ---- a key that is wanted, or an order
pub rests_kept : (w : World) (past : List Event) (h : List Item) (r : ℕ) (o : Option (Node View)) (m : view.ToView) → slice_get w.views r ≡ o → ((v : View) → Rests v (on_view.step v m)) → Good w past h
    → Kept w.plan past h (view_takes w r o m).world
rests_kept w past h r None m at rests g = record { plan = refl; good = g }
rests_kept w past h r (Some n) m at rests g = by n.runs refl
  where
    by : (b : Bool) → n.runs ≡ b → Kept w.plan past h (cond b (acked (view_did w r (on_view.step n.is m)) r (on_view.step n.is m).acks (lengths_of (on_view.step n.is m).view.cut)) (record { world = w; reply = delivered })).world
    by false e = record { plan = refl; good = g }
    by true e =
        let d = on_view.step n.is m in
        let s = rests n.is in
        subst (λ ms. Kept w.plan past h (acked (view_did w r d) r ms (lengths_of d.view.cut)).world) (sym s.acks)
        (record {
          plan = refl;
          good = record {
            wired = wired_view w w.to_view w.from_view r n d at g.wired s.view s.shard (subst (λ c. IsAtMost (lengths_of n.is.cut) (lengths_of c)) (sym s.cut) (at_most_self (lengths_of n.is.cut)))
                (edges_same IsRun Grows (λ (v : View). v.cut) w.views w.to_view (lines_of w.stages) r n at d.view e s.cut g.wired.cuts);
            history = g.history;
            events = g.events;
          };
        })

-- ---- a packet
next_sent : (f z : Line) (x : Sent) (xs : List Sent) → IsRun f (x ∷ xs) z → IsRun x.to xs z
next_sent f z x xs l = l.2

takes_sent : (w : World) (past : List Event) (h : List Item) (s r : ℕ) (o : Option (Node View)) (x : Sent) (xs : List Sent) → slice_get w.views r ≡ o → queue w.to_view r s ≡ x ∷ xs → Good w past h
    → Ends w.plan past h (view_takes (with_edges w w.to_stage (with_queue w.to_view r s xs) w.from_view w.to_base) r o (view.packet s x))
takes_sent w past h s r None x xs at q g =
    let none = pair_none (λ (n : Node View) inbox. Three (Led IsRun Grows n.runs) n.is.cut inbox (lines_of w.stages)) w.views w.to_view r at g.wired.cuts in
    let same = set_none w.to_view r (slice_set (slice_index_or w.to_view r []) s xs) none in
    silent w.plan past h (record { world = with_edges w w.to_stage (with_queue w.to_view r s xs) w.from_view w.to_base; reply = delivered })
    (record {
      plan = refl;
      good = record {
        wired = wired_edges w w.to_stage (with_queue w.to_view r s xs) w.from_view w.to_base g.wired g.wired.lines
            (subst (λ tv. Edges IsRun Grows (λ (v : View). v.cut) w.views tv (lines_of w.stages)) (sym same) g.wired.cuts);
        history = g.history;
        events = g.events;
      };
    }) refl refl
takes_sent w past h s r (Some n) x xs at q g = by n.runs refl
  where
    by : (b : Bool) → n.runs ≡ b → Ends w.plan past h (cond b (acked (view_did (with_edges w w.to_stage (with_queue w.to_view r s xs) w.from_view w.to_base) r (on_view.step n.is (view.packet s x))) r (on_view.step n.is (view.packet s x)).acks (lengths_of (on_view.step n.is (view.packet s x)).view.cut))
        (record { world = with_edges w w.to_stage (with_queue w.to_view r s xs) w.from_view w.to_base; reply = delivered }))
    by false e = silent w.plan past h (record { world = with_edges w w.to_stage (with_queue w.to_view r s xs) w.from_view w.to_base; reply = delivered })
        (record {
          plan = refl;
          good = record {
            wired = wired_edges w w.to_stage (with_queue w.to_view r s xs) w.from_view w.to_base g.wired g.wired.lines
                (edges_lost IsRun Grows (λ (v : View). v.cut) w.views w.to_view (lines_of w.stages) r n at s xs e g.wired.cuts);
            history = g.history;
            events = g.events;
          };
        }) refl refl
    by true e =
        let d = on_view.step n.is (view.packet s x) in
        let inbox = slice_index_or w.to_view r [] in
        let t = subst (λ b. Three (Led IsRun Grows b) n.is.cut inbox (lines_of w.stages)) e
        (pair_at (λ (n : Node View) inbox. Three (Led IsRun Grows n.runs) n.is.cut inbox (lines_of w.stages)) w.views w.to_view r n [] at g.wired.cuts) in
        let k = three_next IsRun Grows n.is.cut inbox (lines_of w.stages) s x xs q t in
        let l = k.3 in
        let from : slice_get n.is.cut s ≡ Some x.from = k.2 ∙ ap Some (sym l.0) in
        acked_ends (view_did (with_edges w w.to_stage (with_queue w.to_view r s xs) w.from_view w.to_base) r d) past h r (record { is = d.view; runs = true }) d.acks
        (record {
          wired = wired_view w (with_queue w.to_view r s xs) w.from_view r n d at g.wired refl refl (cut_len n.is.cut (slice_set n.is.cut s x.to) (cut_set n.is.cut s x.from x.to from l.1))
              (edges_taken IsRun Grows (λ (v : View). v.cut) w.views w.to_view (lines_of w.stages) r n at (λ (x : Sent). x.to) next_sent s x xs d.view e q refl g.wired.cuts);
          history = g.history;
          events = g.events;
        })
        (set_at w.views r (record { is = d.view; runs = true }) n at)

pub stage_comes : (w : World) (past : List Event) (h : List Item) (s r : ℕ) (q : List Sent) → queue w.to_view r s ≡ q → Good w past h → Ends w.plan past h (stage_came w s r q)
stage_comes w past h s r [] e g = silent w.plan past h (stage_came w s r []) (record { plan = refl; good = g }) refl refl
stage_comes w past h s r (x ∷ xs) e g = takes_sent w past h s r (slice_get w.views r) x xs refl e g
