-- What a session may answer, and what it knows then.
use Rattle.std.proofs.Common.{◌≡◌, ◌≢◌, ℕ, ◌+◌, ◌<◌, ◌≤◌, ◌==◌, true, false, List, [], ◌∷◌, ◌++◌, length, slice_index_or, slice_set, refl, ap, sym, ◌∙◌, subst, arith, append_assoc, append-nil, flat_map, get_or-set_same, get_or-set_other, length-set, ◌⊎◌, inl, inr}
use Rattle.std.proofs.lemmas.List.Concat.{flat_map-append}
use Rattle.std.proofs.lemmas.Bool.Decides.{nat_tests, eqb_tells}
use mathlib.Core.List.{IsPrefix}
use Rattle.row.specs.Cells.{Datum, Cells, shard}
use Rattle.row.specs.Bags.{Each}
use Rattle.row.proofs.BagLemmas.{Each-weaker}
use Rattle.plan.specs.Layouts.{Layout, view_at}
use Rattle.model.specs.Queries.{answer}
use Rattle.book.specs.Words.{word_of, count_at}
use Rattle.model.specs.Cuts.{fronts_of, IsWithin, IsAtMost}
use Rattle.model.specs.Legal.{IsPast, IsOwn, EachShard, AllowsRead}
use Rattle.model.specs.Histories.{Item, read, fence, Lengths, IsSame, len_at, Floors, Place, floor_in, floor_of, floor_at, last_or}
use Rattle.book.specs.Pages.{Page, adds, history_of, IsAdded, IsAsk}
use Rattle.book.specs.Sessions.{SessionView, own_word, own_items, IsSession, IsAnswered, IsStolen, AreWithin}
use Rattle.model.specs.Tables.{IsTable, with_floor}
use Rattle.book.proofs.Parts.{count_append, flat_later, floor_blind, IsBlind, flat_quiet}
use Rattle.model.proofs.Growth.{within_later, fronts_later, own_later}
use Rattle.model.proofs.Prefixes.{prefix_trans}
use Rattle.book.proofs.Later.{floor_later}
use Rattle.book.proofs.Steps.{rest_of, count_own, seen_more}

abbrev pub session_at : ℕ → ℕ → Floors → List Page → SessionView
session_at s a floors log = record { session = s; answered = a; floors = floors; seen = history_of log }

-- a session that has seen more
pub session_later : (p : Layout) (n : ℕ) (v w : List Page) (s a : ℕ) (floors : Floors) → IsSession p n (session_at s a floors v) → IsPrefix v w → IsSession p n (session_at s a floors w)
session_later p n v w s a floors x pre =
    let r = rest_of v w pre in
    let all : own_items p s (history_of w) ≡ own_items p s (history_of v) + own_items p s r.0 = ap (own_items p s) r.1 ∙ count_append p (own_word p s) (history_of v) r.0 in
    record {
      range = x.range;
      table = x.table;
      least = omega (arith, all, x.least);
      floors = λ is k j lk lj. (
          let before : own_items p s (history_of v) ≡ a = omega (arith, all, x.least, is) in
          let quiet : own_items p s r.0 ≡ 0 = omega (arith, all, x.least, is) in
          let same : floor_of p s k j (history_of w) ≡ floor_of p s k j (history_of v) = ap (floor_of p s k j) r.1 ∙ floor_later p s k j (history_of v) r.0 quiet in
          subst (λ (f : Lengths). IsSame f (floor_at floors k j)) (sym same) (x.floors before k j lk lj));
    }

-- what an item adds to a part
pub part_more : {A : Type 0} (p : Layout) (k : ℕ) (g : Item → List A) → IsBlind p k g → (v w : List Item) (i : Item) → IsAdded p k v i w → flat_map g w ≡ flat_map g v ++ g i
part_more p k g blind v w i a =
    ap (flat_map g) a.added ∙ (flat_map-append g (v ++ a.between) (i ∷ []) ∙ (ap (λ l. l ++ flat_map g (i ∷ [])) (flat_later p k g blind v a.between a.quiet) ∙ ap (λ l. flat_map g v ++ l) (append-nil (g i))))

last_one : {A : Type 0} (d x : A) (xs : List A) → last_or d (xs ++ x ∷ []) ≡ x
last_one d x [] = refl
last_one d x (y ∷ xs) = last_one y x xs

last_none : {A : Type 0} (d : A) (xs : List A) → last_or d (xs ++ []) ≡ last_or d xs
last_none d xs = ap (last_or d) (append-nil xs)

pub may_read : (p : Layout) (n : ℕ) (v c : List Page) (s a : ℕ) (floors : Floors) (k : ℕ) (key : Datum) (rows : List Cells) (cut : Lengths) → IsSession p n (session_at s a floors v) → IsPrefix c v → k < length p.views
    → shard key (view_at p k).shards < (view_at p k).shards
    → IsWithin p (history_of c) cut → IsAtMost (floor_at floors k (shard key (view_at p k).shards)) cut → rows ≡ answer p (fronts_of p (history_of c) cut) k key
    → own_items p s (history_of v) ≡ a → AllowsRead p n (history_of v) s k key rows cut
may_read p n v c s a floors k key rows cut x pre lt js within floor is here =
    let r = rest_of c v pre in
    record {
      session = x.range;
      view = lt;
      within = subst (λ (h : List Item). IsWithin p h cut) (sym r.1) (within_later p (history_of c) r.0 cut within);
      floor = λ i b. (let e = x.floors here k (shard key (view_at p k).shards) lt js i b in let f = floor i b in omega (arith, e, f));
      answers = is ∙ ap (λ fs. answer p fs k key) (sym (ap (λ h. fronts_of p h cut) r.1 ∙ fronts_later p (history_of c) r.0 cut within.lengths));
    }

-- ---- the table of floors
pub table_set : (p : Layout) (floors : Floors) (k j : ℕ) (cut : Lengths) → IsTable p floors → k < length p.views → IsTable p (with_floor floors k j cut)
table_set p floors k j cut t lt = record {
  views = length-set floors k _ ∙ t.views;
  shards = λ v lv. by_case v lv (eqb_tells v k);
}
  where
    by_case : (v : ℕ) → v < length p.views → (((v == k) ≡ true) × (v ≡ k)) ⊎ (((v == k) ≡ false) × (v ≢ k)) → length (slice_index_or (with_floor floors k j cut) v []) ≡ (view_at p v).shards
    by_case v lv (inl e) = rw (e.1, get_or-set_same floors k (slice_set (slice_index_or floors k []) j cut) [] (omega (arith, t.views)), length-set (slice_index_or floors k []) j cut) (t.shards k lt)
    by_case v lv (inr e) = rw (get_or-set_other floors k v (slice_set (slice_index_or floors k []) j cut) [] e.1) (t.shards v lv)

floor_set_same : (p : Layout) (floors : Floors) (k j : ℕ) (cut : Lengths) → IsTable p floors → k < length p.views → j < (view_at p k).shards → floor_at (with_floor floors k j cut) k j ≡ cut
floor_set_same p floors k j cut t lt jt =
    rw (get_or-set_same floors k (slice_set (slice_index_or floors k []) j cut) [] (omega (arith, t.views))) (get_or-set_same (slice_index_or floors k []) j cut [] (omega (arith, t.shards k lt)))

floor_set_view : (p : Layout) (floors : Floors) (k j v i : ℕ) (cut : Lengths) → v ≢ k → floor_at (with_floor floors k j cut) v i ≡ floor_at floors v i
floor_set_view p floors k j v i cut apart =
    ap (λ l. slice_index_or l i []) (get_or-set_other floors k v (slice_set (slice_index_or floors k []) j cut) [] apart)

floor_set_shard : (p : Layout) (floors : Floors) (k j i : ℕ) (cut : Lengths) → IsTable p floors → k < length p.views → i ≢ j → floor_at (with_floor floors k j cut) k i ≡ floor_at floors k i
floor_set_shard p floors k j i cut t lt apart =
    rw (get_or-set_same floors k (slice_set (slice_index_or floors k []) j cut) [] (omega (arith, t.views))) (get_or-set_other (slice_index_or floors k []) j i cut [] apart)

-- cuts with one of them set, in a history that goes on from that of each
pub cuts_set : (p : Layout) (v o w : List Item) (floors : Floors) (k j : ℕ) (cut : Lengths) → AreWithin p (record { floors = floors; seen = v }) → IsWithin p o cut → k < length p.views → j < (view_at p k).shards → IsPrefix v w → IsPrefix o w
    → AreWithin p (record { floors = with_floor floors k j cut; seen = w })
cuts_set p v o w floors k j cut a c lk lj vw ow = record {
  table = table_set p floors k j cut a.table lk;
  within = λ x i lx li. by x i (later v (floor_at floors x i) vw (a.within x i lx li)) (eqb_tells x k) (eqb_tells i j);
}
  where
    later : (h : List Item) (d : Lengths) → IsPrefix h w → IsWithin p h d → IsWithin p w d
    later h d hw g = subst (λ (u : List Item). IsWithin p u d) hw.1 (within_later p h hw.0 d g)

    by : (x i : ℕ) → IsWithin p w (floor_at floors x i) → (((x == k) ≡ true) × (x ≡ k)) ⊎ (((x == k) ≡ false) × (x ≢ k)) → (((i == j) ≡ true) × (i ≡ j)) ⊎ (((i == j) ≡ false) × (i ≢ j)) → IsWithin p w (floor_at (with_floor floors k j cut) x i)
    by x i old (inr e) f = subst (IsWithin p w) (sym (floor_set_view p floors k j x i cut e.1)) old
    by x i old (inl e) (inl f) = rw (e.1, f.1, floor_set_same p floors k j cut a.table lk lj) (later o cut ow c)
    by x i old (inl e) (inr f) = rw (e.1, floor_set_shard p floors k j i cut a.table lk f.1) (rw e.1 at old)

floor_more : (p : Layout) (s v j : ℕ) (h w : List Item) (i : Item) → IsAdded p (own_word p s) h i w → floor_of p s v j w ≡ last_or [] (flat_map (floor_in p s v j) h ++ floor_in p s v j i)
floor_more p s v j h w i a = ap (last_or []) (part_more p (own_word p s) (floor_in p s v j) (floor_blind p s v j) h w i a)

self : (b : ℕ) → (b == b) ≡ true
self b = grind (arith, nat_tests)

-- the floors after a read, by cases on the place
read_floor : (p : Layout) (s k v i : ℕ) (key : Datum) (rows : List Cells) (cut : Lengths) (floors : Floors) (h w : List Item) → IsTable p floors → k < length p.views → shard key (view_at p k).shards < (view_at p k).shards
    → IsAdded p (own_word p s) h (read s k key rows cut) w → IsSame (floor_of p s v i h) (floor_at floors v i)
    → (((k == v) ≡ true) × (k ≡ v)) ⊎ (((k == v) ≡ false) × (k ≢ v)) → (((shard key (view_at p k).shards == i) ≡ true) × (shard key (view_at p k).shards ≡ i)) ⊎ (((shard key (view_at p k).shards == i) ≡ false) × (shard key (view_at p k).shards ≢ i))
    → IsSame (floor_of p s v i w) (floor_at (with_floor floors k (shard key (view_at p k).shards) cut) v i)
read_floor p s k v i key rows cut floors h w t lt jt a old (inl e) (inl f) =
    let one : floor_in p s v i (read s k key rows cut) ≡ cut ∷ [] = rw (self s, e.0, f.0) refl in
    let is : floor_of p s v i w ≡ cut = floor_more p s v i h w (read s k key rows cut) a ∙ (ap (λ l. last_or [] (flat_map (floor_in p s v i) h ++ l)) one ∙ last_one [] cut (flat_map (floor_in p s v i) h)) in
    let at : floor_at (with_floor floors k (shard key (view_at p k).shards) cut) v i ≡ cut = rw (← f.1, ← e.1) (floor_set_same p floors k (shard key (view_at p k).shards) cut t lt jt) in
    λ x b. ap (λ l. len_at l x b) (is ∙ sym at)
read_floor p s k v i key rows cut floors h w t lt jt a old (inl e) (inr f) =
    let one : floor_in p s v i (read s k key rows cut) ≡ [] = rw (self s, e.0, f.0) refl in
    let is : floor_of p s v i w ≡ floor_of p s v i h = floor_more p s v i h w (read s k key rows cut) a ∙ (ap (λ l. last_or [] (flat_map (floor_in p s v i) h ++ l)) one ∙ last_none [] (flat_map (floor_in p s v i) h)) in
    let at : floor_at (with_floor floors k (shard key (view_at p k).shards) cut) v i ≡ floor_at floors v i = rw (← e.1) (floor_set_shard p floors k (shard key (view_at p k).shards) i cut t lt (λ q. f.1 (sym q))) in
    λ x b. ap (λ l. len_at l x b) is ∙ (old x b ∙ ap (λ l. len_at l x b) (sym at))
read_floor p s k v i key rows cut floors h w t lt jt a old (inr e) f =
    let one : floor_in p s v i (read s k key rows cut) ≡ [] = rw (self s, e.0) refl in
    let is : floor_of p s v i w ≡ floor_of p s v i h = floor_more p s v i h w (read s k key rows cut) a ∙ (ap (λ l. last_or [] (flat_map (floor_in p s v i) h ++ l)) one ∙ last_none [] (flat_map (floor_in p s v i) h)) in
    let at : floor_at (with_floor floors k (shard key (view_at p k).shards) cut) v i ≡ floor_at floors v i = floor_set_view p floors k (shard key (view_at p k).shards) v i cut (λ q. e.1 (sym q)) in
    λ x b. ap (λ l. len_at l x b) is ∙ (old x b ∙ ap (λ l. len_at l x b) (sym at))

-- the count of the word after its item
count_added : (p : Layout) (k : ℕ) (v w : List Item) (i : Item) → word_of p i ≡ k → IsAdded p k v i w → count_at p k w ≡ count_at p k v + 1
count_added p k v w i own a = ap (count_at p k) a.added ∙ (count_own p (v ++ a.between) i k own ∙ omega (arith, count_append p k v a.between, a.quiet))

pub read_done : (p : Layout) (n : ℕ) (v w : List Page) (s a : ℕ) (floors : Floors) (k : ℕ) (key : Datum) (rows : List Cells) (cut : Lengths) → IsSession p n (session_at s a floors v) → k < length p.views → shard key (view_at p k).shards < (view_at p k).shards
    → (count_at p (own_word p s) (history_of v) ≡ a) × IsAdded p (own_word p s) (history_of v) (read s k key rows cut) (history_of w) → IsSession p n (session_at s (a + 1) (with_floor floors k (shard key (view_at p k).shards) cut) w)
read_done p n v w s a floors k key rows cut x lt jt (here, ad) = record {
  range = x.range;
  table = table_set p floors k _ cut x.table lt;
  least = omega (arith, count_added p (own_word p s) (history_of v) (history_of w) (read s k key rows cut) refl ad, here);
  floors = λ is u i lu li. read_floor p s k u i key rows cut floors (history_of v) (history_of w) x.table lt jt ad (x.floors here u i lu li) (eqb_tells k u) (eqb_tells (shard key (view_at p k).shards) i);
}

-- the shorter part has as many items of the word, if the longer one has no more than it was known to have
counted_before : (p : Layout) (k a : ℕ) (o v : List Page) → IsPrefix o v → a ≤ count_at p k (history_of o) → count_at p k (history_of v) ≡ a → count_at p k (history_of o) ≡ a
counted_before p k a o v pre least here =
    let r = rest_of o v pre in
    let all : count_at p k (history_of v) ≡ count_at p k (history_of o) + count_at p k r.0 = ap (count_at p k) r.1 ∙ count_append p k (history_of o) r.0 in
    omega (arith, all, here, least)

-- what was asked for of a longer part was added to the shorter one too
pub added_before : (p : Layout) (k a : ℕ) (o v w : List Page) (i : Item) → IsPrefix o v → a ≤ count_at p k (history_of o) → (count_at p k (history_of v) ≡ a) × IsAdded p k (history_of v) i (history_of w) → IsAdded p k (history_of o) i (history_of w)
added_before p k a o v w i pre least (here, ad) =
    let r = rest_of o v pre in
    let all : count_at p k (history_of v) ≡ count_at p k (history_of o) + count_at p k r.0 = ap (count_at p k) r.1 ∙ count_append p k (history_of o) r.0 in
    record {
      between = r.0 ++ ad.between;
      quiet = count_append p k r.0 ad.between ∙ omega (arith, ad.quiet, all, here, least);
      added = ad.added ∙ ap (λ l. l ++ i ∷ []) (ap (λ h. h ++ ad.between) r.1 ∙ append_assoc (history_of o) r.0 ad.between);
    }

-- ---- as the functions ask: the shard is a number that was found to be that
pub read_asked : (p : Layout) (n : ℕ) (v c : List Page) (s a : ℕ) (floors : Floors) (k j : ℕ) (key : Datum) (rows : List Cells) (cut : Lengths) → j ≡ shard key (view_at p k).shards → IsSession p n (session_at s a floors v) → IsPrefix c v → k < length p.views → j < (view_at p k).shards
    → IsWithin p (history_of c) cut → IsAtMost (floor_at floors k j) cut → rows ≡ answer p (fronts_of p (history_of c) cut) k key → IsAsk p n (own_word p s) a (history_of v) (adds (read s k key rows cut))
read_asked p n v c s a floors k j key rows cut on x pre lt js within floor is =
    let mine = shard key (view_at p k).shards in
    let here : mine < (view_at p k).shards = subst (λ (i : ℕ). i < (view_at p k).shards) on js in
    let above : IsAtMost (floor_at floors k mine) cut = subst (λ (i : ℕ). IsAtMost (floor_at floors k i) cut) on floor in
    record {
      item = read s k key rows cut;
      asks = refl;
      word = refl;
      range = omega (arith, x.range);
      least = x.least;
      may = may_read p n v c s a floors k key rows cut x pre lt here within above is;
    }

pub read_told : (p : Layout) (n : ℕ) (v w : List Page) (s a : ℕ) (floors : Floors) (k j : ℕ) (key : Datum) (rows : List Cells) (cut : Lengths) → j ≡ shard key (view_at p k).shards → IsSession p n (session_at s a floors v) → k < length p.views → j < (view_at p k).shards
    → (count_at p (own_word p s) (history_of v) ≡ a) × IsAdded p (own_word p s) (history_of v) (read s k key rows cut) (history_of w) → IsSession p n (session_at s (a + 1) (with_floor floors k j cut) w)
read_told p n v w s a floors k j key rows cut on x lt js told =
    let here : shard key (view_at p k).shards < (view_at p k).shards = subst (λ (i : ℕ). i < (view_at p k).shards) on js in
    rw on (read_done p n v w s a floors k key rows cut x lt here told)

pub stolen : (p : Layout) (o w : List Page) (s a : ℕ) (floors : Floors) → IsPrefix o w → a < own_items p s (history_of w) → IsStolen p (session_at s a floors o) (session_at s a floors w)
stolen p o w s a floors pre more = record { stays = refl; grown = seen_more o w pre; more = more }

-- a session that has seen more was stolen no later
pub stolen_before : (p : Layout) (o v : List Page) (s a : ℕ) (floors : Floors) (y : SessionView) → IsPrefix o v → IsStolen p (session_at s a floors v) y → IsStolen p (session_at s a floors o) y
stolen_before p o v s a floors y pre t = record { stays = t.stays; grown = prefix_trans (history_of o) (history_of v) y.seen (seen_more o v pre) t.grown; more = t.more }

-- an answer is an item after all that the session had seen
pub answered : (p : Layout) (n : ℕ) (o v w : List Page) (s a : ℕ) (floors after : Floors) (i : Item) → IsSession p n (session_at s a floors o) → IsPrefix o v
    → (count_at p (own_word p s) (history_of v) ≡ a) × IsAdded p (own_word p s) (history_of v) i (history_of w) → IsAnswered p (session_at s a floors o) i after (session_at s (a + 1) after w)
answered p n o v w s a floors after i x pre told = record {
  counted = counted_before p (own_word p s) a o v pre x.least told.0;
  item = added_before p (own_word p s) a o v w i pre x.least told;
  stays = refl;
}

-- ---- fences
fence_floor : (p : Layout) (s : ℕ) (own : List Place) (floors : Floors) (h w : List Item) (v j : ℕ) → IsAdded p (own_word p s) h (fence s own floors) w → floor_of p s v j w ≡ floor_at floors v j
fence_floor p s own floors h w v j a =
    let one : floor_in p s v j (fence s own floors) ≡ floor_at floors v j ∷ [] = rw (self s) refl in
    floor_more p s v j h w (fence s own floors) a ∙ (ap (λ l. last_or [] (flat_map (floor_in p s v j) h ++ l)) one ∙ last_one [] (floor_at floors v j) (flat_map (floor_in p s v j) h))

pub fence_asked : (p : Layout) (n : ℕ) (o v c : List Page) (s a : ℕ) (floors cuts : Floors) (own : List Place) → IsSession p n (session_at s a floors v) → IsPrefix o v → IsPrefix c v
    → AreWithin p (record { floors = cuts; seen = history_of c }) → EachShard p (λ i j. IsAtMost (floor_at floors i j) (floor_at cuts i j)) → EachShard p (λ i j. Each (IsPast p (floor_at cuts i j)) own) → Each (IsOwn p (history_of o) s) own → IsAsk p n (own_word p s) a (history_of v) (adds (fence s own cuts))
fence_asked p n o v c s a floors cuts own x first pre within above covers is = record {
  item = fence s own cuts;
  asks = refl;
  word = refl;
  range = omega (arith, x.range);
  least = x.least;
  may = λ here. (let r = rest_of c v pre in let t = rest_of o v first in record {
    session = x.range;
    within = λ i j li lj. subst (λ (h : List Item). IsWithin p h (floor_at cuts i j)) (sym r.1) (within_later p (history_of c) r.0 (floor_at cuts i j) (within.within i j li lj));
    floor = λ i j li lj st b. (let e = x.floors here i j li lj st b in let f = above i j li lj st b in omega (arith, e, f));
    past = covers;
    written = subst (λ (h : List Item). Each (IsOwn p h s) own) (sym t.1) (Each-weaker (IsOwn p (history_of o) s) (IsOwn p (history_of o ++ t.0) s) (own_later p (history_of o) t.0 s) own is);
  });
}

pub fence_told : (p : Layout) (n : ℕ) (v w : List Page) (s a : ℕ) (floors cuts : Floors) (own : List Place) → IsSession p n (session_at s a floors v) → IsTable p cuts
    → (count_at p (own_word p s) (history_of v) ≡ a) × IsAdded p (own_word p s) (history_of v) (fence s own cuts) (history_of w) → IsSession p n (session_at s (a + 1) cuts w)
fence_told p n v w s a floors cuts own x table told = record {
  range = x.range;
  table = table;
  least = omega (arith, count_added p (own_word p s) (history_of v) (history_of w) (fence s own cuts) refl told.1, told.0);
  floors = λ is i j li lj st b. ap (λ l. len_at l st b) (fence_floor p s own cuts (history_of v) (history_of w) i j told.1);
}

pub zero_session : (p : Layout) (n : ℕ) (v : List Page) (s : ℕ) (floors : Floors) → s < n → IsTable p floors → ((k j : ℕ) → floor_at floors k j ≡ []) → IsSession p n (session_at s 0 floors v)
zero_session p n v s floors lt table none = record {
  range = lt;
  table = table;
  least = omega arith;
  floors = λ is k j lk lj st b. ap (λ f. len_at f st b) (ap (last_or []) (flat_quiet p (own_word p s) (floor_in p s k j) (floor_blind p s k j) (history_of v) is) ∙ sym (none k j));
}
