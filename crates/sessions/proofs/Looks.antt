-- What a session looks at, and its floors there.
use Rattle.std.proofs.Common.{◌≡◌, ℕ, zero, suc, ◌+◌, ◌<◌, ◌≤◌, Bool, List, [], ◌∷◌, length, map, slice_get, slice_index_or, Option, Some, refl, ap, sym, ◌∙◌, subst, arith, ◌⊎◌, inl, inr}
use Rattle.std.proofs.lemmas.Bool.{cases_lt}
use Rattle.std.proofs.lemmas.List.{get_or_past}
use mathlib.Core.List.{IsPrefix}
use Rattle.row.specs.Bags.{Each}
use Rattle.row.specs.Cells.{Datum, Cells}
use Rattle.row.specs.declared.refused.Refused.{Refused}
use Rattle.plan.specs.Layouts.{Layout}
use Rattle.model.specs.Cuts.{IsAtMost, IsWithin}
use Rattle.model.specs.Histories.{Item, read, Lengths, Floors, len_at, floor_at, view_shard, log_of}
use Rattle.model.specs.Places.{sources, source_at}
use Rattle.model.specs.Tables.{with_floor}
use Rattle.model.proofs.Growth.{at_most_self, at_most_none, log_grows}
use Rattle.model.proofs.CutLaws.{same_in}
use Rattle.model.proofs.Prefixes.{prefix_length}
use Rattle.book.specs.Pages.{IsAdded}
use Rattle.book.specs.Sessions.{own_word, own_items}
use Rattle.packet.specs.Readers.{Reader, readers}
use Rattle.protocol.proofs.Lists.{each_at, each_of}
use Rattle.shown.specs.Snapshots.{Snapshot}
use Rattle.sessions.specs.Callers.{Caller, AreLater, IsAbove, IsCaller, IsLooking, IsSight, reader_of, whole_cut}
use Rattle.sessions.specs.Reads.{HasLooked, IsRead, IsUndone, Shows}
use Rattle.sessions.specs.Fences.{IsFenced}
use Rattle.sessions.proofs.Callers.{caller_later}
use Rattle.sessions.proofs.Cuts.{each_get, floor_with}
use Rattle.sessions.proofs.Later.{above_later, all_readers, all_self, all_trans, sight_once}

-- the floors stay, and no less is looked at
pub looks_later : {counted : ℕ} → (p : Layout) (c : Caller) (m : ℕ) (t : Bool) (h : List Item) (accepted : List (Option ℕ)) (v : List Snapshot) → IsLooking p c → AreLater c.shown v
    → IsLooking p (record { session = c.session; number = m; answered = counted; stolen = t; seen = h; accepted = accepted; floors = c.floors; shown = v })
looks_later p c m t h accepted v x later = record {
  shards = all_readers c.shown v later ∙ x.shards;
  floors = above_later c.floors c.shown v later x.floors;
}

-- a session that has made no call
pub looks_new : {counted : ℕ} → (p : Layout) (s : ℕ) (h : List Item) (accepted : List (Option ℕ)) (floors : Floors) (v : List Snapshot) → map reader_of v ≡ readers p → ((i j : ℕ) → floor_at floors i j ≡ [])
    → (n : ℕ) (t : Bool) → IsLooking p (record { session = s; number = n; answered = counted; stolen = t; seen = h; accepted = accepted; floors = floors; shown = v })
looks_new p s h accepted floors v are zeros n t = record {
  shards = are;
  floors = each_of (IsAbove floors) v (λ y. subst (λ (c : Lengths). IsAtMost c y.lengths) (sym (zeros y.view y.shard)) (at_most_none y.lengths));
}

-- ---- a read
map_at : (f : ℕ → ℕ) (bs : List ℕ) (j : ℕ) → j < length bs → slice_index_or (map f bs) j 0 ≡ f (slice_index_or bs j 0)
map_at f [] j lt = absurd (omega (arith, lt))
map_at f (b ∷ bs) zero lt = refl
map_at f (b ∷ bs) (suc j) lt = map_at f bs j (omega (arith, lt))

-- a cut within a history has no more of it than there is
pub within_whole : (p : Layout) (s h : List Item) (c : Lengths) → IsWithin p s c → IsPrefix s h → IsAtMost c (whole_cut p h)
within_whole p s h c w pre st j = by_stage (cases_lt st p.stages)
  where
    line : List ℕ
    line = map (λ b. length (log_of b h)) (sources p)

    low : j < length (sources p) → len_at c st j ≤ slice_index_or line j 0
    low lt = omega (arith, w.lengths st j, prefix_length (log_of (source_at p j) s) (log_of (source_at p j) h) (log_grows (source_at p j) s h pre), map_at (λ b. length (log_of b h)) (sources p) j lt)

    by_source : st < p.stages → (j < length (sources p)) ⊎ (length (sources p) ≤ j) → len_at c st j ≤ slice_index_or (slice_index_or (whole_cut p h) st []) j 0
    by_source small (inl lt) = rw (same_in line [] p.stages st small) (low lt)
    by_source small (inr ge) = omega (arith, get_or_past (slice_index_or c st []) j 0 (omega (arith, ge, w.lines st small)))

    by_stage : (st < p.stages) ⊎ (p.stages ≤ st) → len_at c st j ≤ len_at (whole_cut p h) st j
    by_stage (inl small) = by_source small (cases_lt j (length (sources p)))
    by_stage (inr ge) = omega (arith, ap (λ l. slice_index_or l j 0) (get_or_past c st [] (omega (arith, ge, w.stages))))

-- a floor that is set to no more than something
below : (F G : Floors) (v j : ℕ) (c d : Lengths) (a b : ℕ) → G ≡ with_floor F v j c → IsAtMost c d → IsAtMost (floor_at F a b) d
    → ((a ≡ v) × (b ≡ j) × (floor_at (with_floor F v j c) a b ≡ c)) ⊎ (floor_at (with_floor F v j c) a b ≡ floor_at F a b) → IsAtMost (floor_at G a b) d
below F G v j c d a b set top old (inl e) = subst (λ (x : Lengths). IsAtMost x d) (sym (ap (λ (H : Floors). floor_at H a b) set ∙ e.2)) top
below F G v j c d a b set top old (inr e) = subst (λ (x : Lengths). IsAtMost x d) (sym (ap (λ (H : Floors). floor_at H a b) set ∙ e)) old

pub caller_read : {counted : ℕ} → (p : Layout) (old : Caller) (m : ℕ) (s h : List Item) (c : Lengths) (floors : Floors) (v : List Snapshot) (w j : ℕ) → IsCaller p old → IsPrefix old.seen h → IsWithin p s c → IsPrefix s h → floors ≡ with_floor old.floors w j c
    → IsCaller p (record { session = old.session; number = m; answered = counted; stolen = old.stolen; seen = h; accepted = old.accepted; floors = floors; shown = v })
caller_read p old m s h c floors v w j is grown wi pre set =
    let later = caller_later {counted = 0} p old m old.stolen h v is grown in
    record {
      width = later.width;
      own = later.own;
      floors = λ a b la lb. below old.floors floors w j c (whole_cut p h) a b set (within_whole p s h c wi pre) (later.floors a b la lb) (floor_with old.floors w j c a b);
    }

-- above the floor that was set to what was looked at
above_read : (p : Layout) (shown : List Snapshot) (F G : Floors) (v j : ℕ) (c : Lengths) (s : Snapshot) → map reader_of shown ≡ readers p → IsSight shown v j s → c ≡ s.lengths → G ≡ with_floor F v j c → Each (IsAbove F) shown → Each (IsAbove G) shown
above_read p shown F G v j c s are is cut set each = each_get (IsAbove F) (IsAbove G) shown (λ n z at old. by n z at old (floor_with F v j c z.view z.shard)) each
  where
    by : (n : ℕ) (z : Snapshot) → slice_get shown n ≡ Some z → IsAbove F z → ((z.view ≡ v) × (z.shard ≡ j) × (floor_at (with_floor F v j c) z.view z.shard ≡ c)) ⊎ (floor_at (with_floor F v j c) z.view z.shard ≡ floor_at F z.view z.shard) → IsAbove G z
    by n z at old (inl e) =
        let r : reader_of z ≡ reader_of s = ap (λ a. record { view = a; shard = z.shard }) e.0 ∙ (ap (λ b. record { view = v; shard = b }) e.1 ∙ sym is.of) in
        let same : z ≡ s = sight_once p shown are n is.place z s at is.there r in
        let l : c ≡ z.lengths = cut ∙ ap (λ (x : Snapshot). x.lengths) (sym same) in
        subst (λ (x : Lengths). IsAtMost x z.lengths) (sym (ap (λ (H : Floors). floor_at H z.view z.shard) set ∙ (e.2 ∙ l))) (at_most_self z.lengths)
    by n z at old (inr e) = subst (λ (x : Lengths). IsAtMost x z.lengths) (sym (ap (λ (H : Floors). floor_at H z.view z.shard) set ∙ e)) old

pub looks_read : {counted : ℕ} → (p : Layout) (old : Caller) (m : ℕ) (h : List Item) (c : Lengths) (floors : Floors) (v j : ℕ) (s : Snapshot) → IsLooking p old → IsSight old.shown v j s → c ≡ s.lengths → floors ≡ with_floor old.floors v j c
    → IsLooking p (record { session = old.session; number = m; answered = counted; stolen = old.stolen; seen = h; accepted = old.accepted; floors = floors; shown = old.shown })
looks_read p old m h c floors v j s x is cut set = record {
  shards = x.shards;
  floors = above_read p old.shown old.floors floors v j c s x.shards is cut set x.floors;
}

-- the floor of a shard is no more than what was looked at
pub floor_below : (p : Layout) (c : Caller) (v j : ℕ) (s : Snapshot) → IsLooking p c → IsSight c.shown v j s → IsAtMost (floor_at c.floors v j) s.lengths
floor_below p c v j s x is = subst (λ (r : Reader). IsAtMost (floor_at c.floors r.view r.shard) s.lengths) is.of (each_at (IsAbove c.floors) c.shown is.place s is.there x.floors)

abbrev read_caller : Caller → List Item → Floors → Caller
read_caller old h floors = record { session = old.session; number = old.number + 1; answered = old.answered + 1; stolen = old.stolen; seen = h; accepted = old.accepted; floors = floors; shown = old.shown }

pub read_done : (p : Layout) (old : Caller) (v : ℕ) (k : Datum) (rs : List Cells) (c : Lengths) (before h : List Item) (floors : Floors) → IsLooking p old → IsPrefix old.seen before → own_items p old.session before ≡ old.answered → IsAdded p (own_word p old.session) before (read old.session v k rs c) h
    → Shows p old.shown v k rs c → floors ≡ with_floor old.floors v (view_shard p v k) c → IsRead p old (read_caller old h floors) v k rs c
read_done p old v k rs c before h floors x grown once item shows set = record {
  before = before;
  grown = grown;
  once = once;
  item = item;
  looked = all_self old.shown;
  shows = shows;
  floor = subst (λ (d : Lengths). IsAtMost (floor_at old.floors v (view_shard p v k)) d) (sym shows.cut) (floor_below p old v (view_shard p v k) shows.sight x shows.is);
  after = ap (read_caller old h) set;
}

-- ---- a look and then more
module _ (p : Layout) (old mid new : Caller) (x : HasLooked old mid) where
  session_same : mid.session ≡ old.session
  session_same = ap (λ (c : Caller). c.session) x.after

  number_same : mid.number ≡ old.number
  number_same = ap (λ (c : Caller). c.number) x.after

  answered_same : mid.answered ≡ old.answered
  answered_same = ap (λ (c : Caller). c.answered) x.after

  stolen_same : mid.stolen ≡ old.stolen
  stolen_same = ap (λ (c : Caller). c.stolen) x.after

  pub seen_same : mid.seen ≡ old.seen
  seen_same = ap (λ (c : Caller). c.seen) x.after

  accepted_same : mid.accepted ≡ old.accepted
  accepted_same = ap (λ (c : Caller). c.accepted) x.after

  floors_same : mid.floors ≡ old.floors
  floors_same = ap (λ (c : Caller). c.floors) x.after

  pub looked_read : (v : ℕ) (k : Datum) (rs : List Cells) (c : Lengths) → IsRead p mid new v k rs c → IsRead p old new v k rs c
  looked_read v k rs c r = record {
    before = r.before;
    grown = rw seen_same at r.grown;
    once = rw (session_same, answered_same) at r.once;
    item = rw session_same at r.item;
    looked = all_trans old.shown mid.shown new.shown x.looked r.looked;
    shows = r.shows;
    floor = rw floors_same at r.floor;
    after = rw (session_same, number_same, answered_same, stolen_same, accepted_same, floors_same) at r.after;
  }

  pub looked_again : HasLooked mid new → HasLooked old new
  looked_again r = record {
    looked = all_trans old.shown mid.shown new.shown x.looked r.looked;
    after = rw (session_same, number_same, answered_same, stolen_same, seen_same, accepted_same, floors_same) at r.after;
  }

  pub looked_undone : {P : Refused → Type 0} → (r : Refused) → IsUndone p P mid new r → IsUndone p P old new r
  looked_undone r u = record {
    after = rw (session_same, answered_same, accepted_same, floors_same) at u.after;
    looked = all_trans old.shown mid.shown new.shown x.looked u.looked;
    number = rw number_same at u.number;
    grown = rw seen_same at u.grown;
    why = rw (seen_same, stolen_same, session_same, answered_same) at u.why;
  }

  pub looked_fenced : IsFenced p mid new → IsFenced p old new
  looked_fenced r = record {
    before = r.before;
    grown = rw seen_same at r.grown;
    once = rw (session_same, answered_same) at r.once;
    item = rw (session_same, accepted_same) at r.item;
    floored = rw seen_same at r.floored;
    shown = r.shown;
    after = rw (session_same, number_same, answered_same, stolen_same, accepted_same) at r.after;
    looked = all_trans old.shown mid.shown new.shown x.looked r.looked;
  }
