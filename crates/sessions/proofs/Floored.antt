-- Fences: their places, their cuts, and the session afterwards.
use Rattle.std.proofs.Common.{◌≡◌, ℕ, zero, suc, ◌+◌, ◌<◌, ◌≤◌, List, [], ◌∷◌, ◌++◌, length, map, flat_map, slice_index_or, Option, Some, None, refl, ap, sym, ◌∙◌, subst, arith, append_assoc, length-append}
use Rattle.std.proofs.lemmas.List.{length-map}
use mathlib.Core.List.{IsPrefix}
use Rattle.row.specs.Bags.{Each}
use Rattle.row.proofs.BagLemmas.{Each-weaker}
use Rattle.plan.specs.Layouts.{Layout}
use Rattle.model.specs.Places.{sources, source_at}
use Rattle.model.specs.Histories.{Item, fence, Place, Lengths, Floors, len_at, floor_at, log_of}
use Rattle.model.specs.Cuts.{IsAtMost}
use Rattle.model.specs.Legal.{EachShard, IsOwn, IsPast}
use Rattle.model.proofs.Growth.{at_most_self, at_most_trans}
use Rattle.book.specs.Fronts.{FrontView}
use Rattle.book.specs.Pages.{IsAdded}
use Rattle.book.specs.Sessions.{FloorsView, own_word, own_items}
use Rattle.packet.specs.Readers.{Reader}
use Rattle.protocol.proofs.Lists.{each_at}
use Rattle.shown.specs.Snapshots.{Snapshot}
use Rattle.sessions.specs.Callers.{Caller, IsAbove, IsCaller, IsLooking, accepted_at, whole_cut}
use Rattle.sessions.specs.Fences.{place_of, own_places, IsFenced}
use Rattle.sessions.specs.Sights.{HasAll, IsCovering, IsCut}
use Rattle.sessions.proofs.Callers.{wrote_later, wrote_within, caller_later, whole_later}
use Rattle.sessions.proofs.Cuts.{each_get}
use Rattle.sessions.proofs.Later.{all_self, sight_in}
use Rattle.plan.proofs.OwnTexts.{each_join}

abbrev pub bases_of : List FrontView → List ℕ
bases_of fs = map (λ (f : FrontView). f.base) fs

abbrev pub lens_of : List FrontView → List ℕ
lens_of fs = map (λ (f : FrontView). f.len) fs

abbrev pub logs_of : List Item → List ℕ → List ℕ
logs_of h bs = map (λ b. length (log_of b h)) bs

-- ---- fronts that have all of a history
covers_at : (h : List Item) (fs : List FrontView) (j : ℕ) → Each (IsCovering h) fs → slice_index_or (logs_of h (bases_of fs)) j 0 ≤ slice_index_or (lens_of fs) j 0
covers_at h [] j each = omega arith
covers_at h (f ∷ fs) zero each = each.0
covers_at h (f ∷ fs) (suc j) each = covers_at h fs j each.1

logs_at : (h : List Item) (bs : List ℕ) (j : ℕ) → j < length bs → slice_index_or (logs_of h bs) j 0 ≡ length (log_of (slice_index_or bs j 0) h)
logs_at h [] j lt = absurd (omega arith)
logs_at h (b ∷ bs) zero lt = refl
logs_at h (b ∷ bs) (suc j) lt = logs_at h bs j (omega arith)

-- each length of a cut that has all of the fronts has all of its source's log that was seen
length_at : (p : Layout) (h : List Item) (fs : List FrontView) (d : Lengths) (s j : ℕ) → bases_of fs ≡ sources p → Each (IsCovering h) fs → HasAll p fs d → s < p.stages → j < length (sources p) → length (log_of (source_at p j) h) ≤ len_at d s j
length_at p h fs d s j is each all ls lj =
    let low : slice_index_or (logs_of h (sources p)) j 0 ≤ slice_index_or (lens_of fs) j 0 = subst (λ (bs : List ℕ). slice_index_or (logs_of h bs) j 0 ≤ slice_index_or (lens_of fs) j 0) is (covers_at h fs j each) in
    let n : length fs ≡ length (sources p) = sym (length-map fs (λ (f : FrontView). f.base)) ∙ ap length is in
    let high = all s j ls (omega (arith, lj, n)) in
    omega (arith, low, high, logs_at h (sources p) j lj)

-- ---- places
each_flat : {A B : Type 0} (P : A → Type 0) (Q : B → Type 0) (f : A → List B) → ((a : A) → P a → Each Q (f a)) → (xs : List A) → Each P xs → Each Q (flat_map f xs)
each_flat P Q f step [] each = tt
each_flat P Q f step (x ∷ xs) each = each_join Q (f x) (flat_map f xs) (step x each.0) (each_flat P Q f step xs each.1)

record IsSource (p : Layout) (b : ℕ) : Type 0 where
  pub source : ℕ
  pub there : source < length (sources p)
  pub base : source_at p source ≡ b

get_after : (xs : List ℕ) (y : ℕ) (ys : List ℕ) → slice_index_or (xs ++ y ∷ ys) (length xs) 0 ≡ y
get_after [] y ys = refl
get_after (x ∷ xs) y ys = get_after xs y ys

each_source_of : (p : Layout) (before bs : List ℕ) → sources p ≡ before ++ bs → Each (IsSource p) bs
each_source_of p before [] is = tt
each_source_of p before (b ∷ bs) is = (
  record {
    source = length before;
    there = let n = ap length is in omega (arith, n, length-append before (b ∷ bs));
    base = ap (λ (l : List ℕ). slice_index_or l (length before) 0) is ∙ get_after before b bs;
  },
  each_source_of p (before ++ b ∷ []) bs (is ∙ sym (append_assoc before (b ∷ []) bs)),
)

pub own_written : (p : Layout) (c : Caller) (h : List Item) → IsCaller p c → IsPrefix c.seen h → Each (IsOwn p h c.session) (own_places p c.accepted)
own_written p c h x grown = each_flat (IsSource p) (IsOwn p h c.session) (λ b. place_of b (accepted_at c.accepted b)) (λ b at. step b at (accepted_at c.accepted b) refl) (sources p) (each_source_of p [] (sources p) refl)
  where
    step : (b : ℕ) → IsSource p b → (o : Option ℕ) → accepted_at c.accepted b ≡ o → Each (IsOwn p h c.session) (place_of b o)
    step b at None is = tt
    step b at (Some k) is =
        let w = wrote_later c.seen h c.session b k grown (x.own b k is) in
        (record { source = at.source; there = at.there; base = at.base; number = w.number; wrote = w.author }, tt)

-- an index within its log
abbrev IsInside : List Item → Place → Type 0
IsInside h x = x.index < length (log_of x.base h)

own_inside : (p : Layout) (c : Caller) → IsCaller p c → Each (IsInside c.seen) (own_places p c.accepted)
own_inside p c x = each_flat (IsSource p) (IsInside c.seen) (λ b. place_of b (accepted_at c.accepted b)) (λ b at. step b (accepted_at c.accepted b) refl) (sources p) (each_source_of p [] (sources p) refl)
  where
    step : (b : ℕ) → (o : Option ℕ) → accepted_at c.accepted b ≡ o → Each (IsInside c.seen) (place_of b o)
    step b None is = tt
    step b (Some k) is = (wrote_within c.seen c.session b k (x.own b k is), tt)

-- ---- the cuts that a fence floors at
-- what is shown of a shard, and its cut there
record IsFloor (p : Layout) (fs : List FrontView) (c : Caller) (cuts : FloorsView) (v j : ℕ) : Type 0 where
  pub sight : Snapshot
  pub old : IsAtMost (floor_at c.floors v j) sight.lengths
  pub floor : floor_at cuts.floors v j ≡ sight.lengths
  pub reached : IsAtMost sight.lengths (whole_cut p cuts.seen)
  pub all : HasAll p fs sight.lengths

module _ (p : Layout) (c : Caller) (fs : List FrontView) (cuts : FloorsView) (l : IsLooking p c) (each : Each (IsCut p fs cuts) c.shown) where
  floors_are : EachShard p (IsFloor p fs c cuts)
  floors_are v j lv lj =
      let s = sight_in p c.shown l.shards v j lv lj in
      let cut = each_at (IsCut p fs cuts) c.shown s.1.place s.0 s.1.there each in
      let above = each_at (IsAbove c.floors) c.shown s.1.place s.0 s.1.there l.floors in
      record {
        sight = s.0;
        old = subst (λ (r : Reader). IsAtMost (floor_at c.floors r.view r.shard) s.0.lengths) s.1.of above;
        floor = subst (λ (r : Reader). floor_at cuts.floors r.view r.shard ≡ s.0.lengths) s.1.of cut.floor;
        reached = cut.reached;
        all = cut.all;
      }

  -- the new floors are no lower than the old
  pub floors_rise : EachShard p (λ v j. IsAtMost (floor_at c.floors v j) (floor_at cuts.floors v j))
  floors_rise v j lv lj =
      let f = floors_are v j lv lj in
      subst (IsAtMost (floor_at c.floors v j)) (sym f.floor) f.old

  -- and no more than what was seen
  pub floors_whole : (h : List Item) → IsPrefix cuts.seen h → EachShard p (λ v j. IsAtMost (floor_at cuts.floors v j) (whole_cut p h))
  floors_whole h grown v j lv lj =
      let f = floors_are v j lv lj in
      subst (λ (d : Lengths). IsAtMost d (whole_cut p h)) (sym f.floor) (at_most_trans f.sight.lengths (whole_cut p cuts.seen) (whole_cut p h) f.reached (whole_later p cuts.seen h grown))

  module _ (is : bases_of fs ≡ sources p) (covers : Each (IsCovering c.seen) fs) where
    pub floors_have : EachShard p (λ v j. (s i : ℕ) → s < p.stages → i < length (sources p) → length (log_of (source_at p i) c.seen) ≤ len_at (floor_at cuts.floors v j) s i)
    floors_have v j lv lj s i ls li =
        let f = floors_are v j lv lj in
        subst (λ (d : Lengths). length (log_of (source_at p i) c.seen) ≤ len_at d s i) (sym f.floor) (length_at p c.seen fs f.sight.lengths s i is covers f.all ls li)

    pub own_past : IsCaller p c → EachShard p (λ v j. Each (IsPast p (floor_at cuts.floors v j)) (own_places p c.accepted))
    own_past x v j lv lj = Each-weaker (IsInside c.seen) (IsPast p (floor_at cuts.floors v j)) past (own_places p c.accepted) (own_inside p c x)
      where
        past : (y : Place) → IsInside c.seen y → IsPast p (floor_at cuts.floors v j) y
        past y inside s i ls li at =
            let low = floors_have v j lv lj s i ls li in
            let same : length (log_of (source_at p i) c.seen) ≡ length (log_of y.base c.seen) = ap (λ b. length (log_of b c.seen)) at in
            omega (arith, low, same, inside)

-- ---- the session afterwards
module _ (p : Layout) (c : Caller) (fs : List FrontView) (cuts : FloorsView) (l : IsLooking p c) (each : Each (IsCut p fs cuts) c.shown) where
  pub caller_fenced : {counted : ℕ} → (m : ℕ) (h : List Item) (floors : Floors) → IsCaller p c → IsPrefix c.seen h → floors ≡ cuts.floors → IsPrefix cuts.seen h
      → IsCaller p (record { session = c.session; number = m; answered = counted; stolen = c.stolen; seen = h; accepted = c.accepted; floors = floors; shown = c.shown })
  caller_fenced m h floors x grown are reached =
      let later = caller_later {counted = 0} p c m c.stolen h c.shown x grown in
      record {
        width = later.width;
        own = later.own;
        floors = subst (λ (F : Floors). EachShard p (λ v j. IsAtMost (floor_at F v j) (whole_cut p h))) (sym are) (floors_whole p c fs cuts l each h reached);
      }

  shown_floors : (floors : Floors) → floors ≡ cuts.floors → Each (λ (s : Snapshot). floor_at floors s.view s.shard ≡ s.lengths) c.shown
  shown_floors floors are = each_get (IsCut p fs cuts) (λ s. floor_at floors s.view s.shard ≡ s.lengths) c.shown (λ n s at cut. ap (λ (F : Floors). floor_at F s.view s.shard) are ∙ cut.floor) each

  pub looks_fenced : {counted : ℕ} → (m : ℕ) (h : List Item) (floors : Floors) → floors ≡ cuts.floors
      → IsLooking p (record { session = c.session; number = m; answered = counted; stolen = c.stolen; seen = h; accepted = c.accepted; floors = floors; shown = c.shown })
  looks_fenced m h floors are = record {
    shards = l.shards;
    floors = each_get (λ (s : Snapshot). floor_at floors s.view s.shard ≡ s.lengths) (IsAbove floors) c.shown (λ n s at e. subst (λ (d : Lengths). IsAtMost d s.lengths) (sym e) (at_most_self s.lengths)) (shown_floors floors are);
  }

  pub fenced : (before h : List Item) (floors : Floors) (own : List Place) → IsPrefix c.seen before → own_items p c.session before ≡ c.answered → own ≡ own_places p c.accepted → floors ≡ cuts.floors → bases_of fs ≡ sources p → Each (IsCovering c.seen) fs
      → IsAdded p (own_word p c.session) before (fence c.session own floors) h → IsFenced p c (record { session = c.session; number = c.number + 1; answered = c.answered + 1; stolen = c.stolen; seen = h; accepted = c.accepted; floors = floors; shown = c.shown })
  fenced before h floors own grown once places are is covers added = record {
    before = before;
    grown = grown;
    once = once;
    item = subst (λ (o : List Place). IsAdded p (own_word p c.session) before (fence c.session o floors) h) places added;
    floored = subst (λ (F : Floors). EachShard p (λ v j. (s i : ℕ) → s < p.stages → i < length (sources p) → length (log_of (source_at p i) c.seen) ≤ len_at (floor_at F v j) s i)) (sym are) (floors_have p c fs cuts l each is covers);
    shown = shown_floors floors are;
    after = refl;
    looked = all_self c.shown;
  }

pub added_grows : (p : Layout) (k : ℕ) (v : List Item) (i : Item) (w : List Item) → IsAdded p k v i w → IsPrefix v w
added_grows p k v i w x = (x.between ++ i ∷ [], sym (x.added ∙ append_assoc v x.between (i ∷ [])))
