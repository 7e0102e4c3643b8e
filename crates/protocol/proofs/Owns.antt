-- A session's own places, and the greater of two cuts.
use Rattle.std.proofs.Common.{◌≡◌, ℕ, zero, suc, ◌+◌, ◌==◌, ◌&&◌, ◌<◌, ◌≤◌, nat_le, Bool, true, false, cond, List, [], ◌∷◌, ◌++◌, map, flat_map, length, slice_get, slice_index_or, Some, refl, ap, sym, ◌∙◌, subst, arith, ◌⊎◌, inl, inr}
use Rattle.std.specs.List.{list_all, range_with_len}
use Rattle.std.proofs.lemmas.Bool.Decides.{nat_tests}
use Rattle.std.proofs.lemmas.List.{get_or_past}
use Rattle.std.proofs.lemmas.List.FromFn.{get_or-map-range_with_len, length-map-range_with_len}
use Rattle.row.specs.Bags.{Each}
use Rattle.plan.specs.Layouts.{Layout}
use Rattle.protocol.specs.Theorem as told
use Rattle.model.specs.Places.{sources, source_at}
use Rattle.model.specs.Histories.{Item, Author, Place, Lengths, len_at, authors_of}
use Rattle.model.specs.Cuts.{IsAtMost, IsWithin}
use Rattle.model.specs.Legal.{IsPast, IsOwn}
use Rattle.protocol.specs.Bases.{Base}
use Rattle.protocol.specs.Worlds.{Node, World}
use Rattle.protocol.specs.Theorem.{own_places}
use Rattle.model.proofs.Lists.{below_or_not}
use Rattle.protocol.specs.WorldSteps.{own_in, covers, greater, greatest, after_own}
use Rattle.protocol.specs.Edges.{pairs}
use Rattle.protocol.proofs.Wired.{Wired, IsLogOf}
use Rattle.protocol.proofs.Lists.{each_at, or_of}
use Rattle.protocol.proofs.Spots.{same_is, range_get}
use Rattle.protocol.proofs.Within.{there, not_past, sources_small}
use Rattle.plan.proofs.OwnTexts.{each_join}

-- ---- each
pub each_in : {X : Type 0} (P : X → Type 0) (xs : List X) → ((i : ℕ) (x : X) → slice_get xs i ≡ Some x → P x) → Each P xs
each_in P [] g = tt
each_in P (x ∷ xs) g = (g 0 x refl, each_in P xs (λ i y at. g (suc i) y at))

pub each_flat : {X Y : Type 0} (P : Y → Type 0) (f : X → List Y) (xs : List X) → Each (λ x. Each P (f x)) xs → Each P (flat_map f xs)
each_flat P f [] h = tt
each_flat P f (x ∷ xs) h = each_join P (f x) (flat_map f xs) h.0 (each_flat P f xs h.1)

-- what holds of each of two lists together holds of each of both
pub each_first : {X : Type 0} (P : X → Type 0) (xs ys : List X) → Each P (xs ++ ys) → Each P xs × Each P ys
each_first P [] ys h = (tt, h)
each_first P (x ∷ xs) ys h = let r = each_first P xs ys h.1 in ((h.0, r.0), r.1)

each_part : {X Y : Type 0} (P : Y → Type 0) (f : X → List Y) (xs : List X) (i : ℕ) (x : X) → slice_get xs i ≡ Some x → Each P (flat_map f xs) → Each P (f x)
each_part P f [] i x at h = cc
each_part P f (y ∷ xs) zero x at h = let e : y ≡ x = cc in subst (λ z. Each P (f z)) e (each_first P (f y) (flat_map f xs) h).0
each_part P f (y ∷ xs) (suc i) x at h = each_part P f xs i x at (each_first P (f y) (flat_map f xs) h).1

each_mapped : {X Y : Type 0} (P : Y → Type 0) (f : X → Y) (xs : List X) (i : ℕ) (x : X) → slice_get xs i ≡ Some x → Each P (map f xs) → P (f x)
each_mapped P f [] i x at h = cc
each_mapped P f (y ∷ xs) zero x at h = let e : y ≡ x = cc in subst (λ z. P (f z)) e h.0
each_mapped P f (y ∷ xs) (suc i) x at h = each_mapped P f xs i x at h.1

pub each_true : {X : Type 0} (test : X → Bool) (xs : List X) → list_all test xs ≡ true → Each (λ x. test x ≡ true) xs
each_true test [] e = tt
each_true test (x ∷ xs) e = by (test x) refl e (each_true test xs)
  where
    by : (b : Bool) → test x ≡ b → (b && list_all test xs) ≡ true → (list_all test xs ≡ true → Each (λ x. test x ≡ true) xs) → (test x ≡ true) × Each (λ x. test x ≡ true) xs
    by true p e rest = (p, rest e)
    by false p e rest = cc

-- ---- own places
own_more : (se found i : ℕ) (as_ : List Author) → found ≤ i → found ≤ after_own se found i as_
own_more se found i [] le = omega arith
own_more se found i (a ∷ rest) le = by (a.session == se) (own_more se (suc i) (suc i) rest (omega arith)) (own_more se found (suc i) rest (omega arith))
  where
    by : (b : Bool) → suc i ≤ after_own se (suc i) (suc i) rest → found ≤ after_own se found (suc i) rest → found ≤ after_own se (cond b (suc i) found) (suc i) rest
    by true x y = omega arith
    by false x y = y

abbrev IsBelow : ℕ → ℕ → Place → Type 0
IsBelow b n x = (x.base ≡ b) × (x.index < n)

own_below : (se b found i : ℕ) (as_ : List Author) → found ≤ i → Each (IsBelow b (after_own se found i as_)) (told.own_from se b i as_)
own_below se b found i [] le = tt
own_below se b found i (a ∷ rest) le = by (a.session == se) (own_below se b (suc i) (suc i) rest (omega arith)) (own_below se b found (suc i) rest (omega arith))
  where
    by : (t : Bool) → Each (IsBelow b (after_own se (suc i) (suc i) rest)) (told.own_from se b (suc i) rest) → Each (IsBelow b (after_own se found (suc i) rest)) (told.own_from se b (suc i) rest)
        → Each (IsBelow b (after_own se (cond t (suc i) found) (suc i) rest)) (cond t (record { base = b; index = i } ∷ []) [] ++ told.own_from se b (suc i) rest)
    by true x y = ((refl, own_more se (suc i) (suc i) rest (omega arith)), x)
    by false x y = y

abbrev Wrote : ℕ → ℕ → List Author → Place → Type 0
Wrote se b all x = (x.base ≡ b) × (n : ℕ) × (slice_get all x.index ≡ Some (record { session = se; number = n }))

own_wrote : (se b i : ℕ) (all as_ : List Author) → ((k : ℕ) (a : Author) → slice_get as_ k ≡ Some a → slice_get all (i + k) ≡ Some a) → Each (Wrote se b all) (told.own_from se b i as_)
own_wrote se b i all [] g = tt
own_wrote se b i all (a ∷ rest) g =
    by (a.session == se) refl (own_wrote se b (suc i) all rest (λ k x at. let e : suc i + k ≡ i + suc k = omega arith in ap (slice_get all) e ∙ g (suc k) x at))
  where
    author : ℕ → ℕ → Author
    author s n = record { session = s; number = n }

    by : (t : Bool) → (a.session == se) ≡ t → Each (Wrote se b all) (told.own_from se b (suc i) rest) → Each (Wrote se b all) (cond t (record { base = b; index = i } ∷ []) [] ++ told.own_from se b (suc i) rest)
    by true e r =
        let z : i ≡ i + 0 = omega arith in
        let s : a.session ≡ se = same_is a.session se e in
        ((refl, a.number, ap (slice_get all) z ∙ (g 0 a refl ∙ ap (λ x. Some (author x a.number)) s)), r)
    by false e r = r

-- the session wrote what stands at each
pub own_written : (p : Layout) (h : List Item) (se : ℕ) → Each (IsOwn p h se) (own_places p h se)
own_written p h se = each_flat (IsOwn p h se) (λ b. told.own_from se b 0 (authors_of b h)) (sources p) (each_in (λ b. Each (IsOwn p h se) (told.own_from se b 0 (authors_of b h))) (sources p) (λ i b at. of i b at))
  where
    plain : (b : ℕ) (k : ℕ) (a : Author) → slice_get (authors_of b h) k ≡ Some a → slice_get (authors_of b h) (0 + k) ≡ Some a
    plain b k a at = let e : 0 + k ≡ k = omega arith in ap (slice_get (authors_of b h)) e ∙ at

    to : (i b : ℕ) → slice_get (sources p) i ≡ Some b → (x : Place) → Wrote se b (authors_of b h) x → IsOwn p h se x
    to i b at x w = record { source = i; there = not_past (sources p) i b at; base = or_of (sources p) i b 0 at ∙ sym w.0; number = w.1; wrote = ap (λ c. slice_get (authors_of c h) x.index) w.0 ∙ w.2 }

    all : (i b : ℕ) → slice_get (sources p) i ≡ Some b → (xs : List Place) → Each (Wrote se b (authors_of b h)) xs → Each (IsOwn p h se) xs
    all i b at [] w = tt
    all i b at (x ∷ xs) w = (to i b at x w.0, all i b at xs w.1)

    of : (i b : ℕ) → slice_get (sources p) i ≡ Some b → Each (IsOwn p h se) (told.own_from se b 0 (authors_of b h))
    of i b at = all i b at (told.own_from se b 0 (authors_of b h)) (own_wrote se b 0 (authors_of b h) (authors_of b h) (plain b))

-- what it is to cover
covered_at : (w : World) (se : ℕ) (cut : Lengths) → covers w se cut ≡ true → (s j : ℕ) → s < w.plan.stages → j < length (sources w.plan) → own_in se (slice_get w.bases (source_at w.plan j)) ≤ len_at cut s j
covered_at w se cut e s j ls lj =
    let f : ℕ → ℕ → Bool = λ s j. nat_le (own_in se (slice_get w.bases (source_at w.plan j))) (len_at cut s j) in
    let all = each_true (λ b. b) (pairs f w.plan.stages (length (sources w.plan))) e in
    let zs : 0 + s ≡ s = omega arith in
    let zj : 0 + j ≡ j = omega arith in
    let row = each_part (λ b. b ≡ true) (λ x. map (f x) (range_with_len 0 (length (sources w.plan)))) (range_with_len 0 w.plan.stages) s s (range_get 0 w.plan.stages s ls ∙ ap Some zs) all in
    let one : nat_le (own_in se (slice_get w.bases (source_at w.plan j))) (len_at cut s j) ≡ true = each_mapped (λ b. b ≡ true) (f s) (range_with_len 0 (length (sources w.plan))) j j (range_get 0 (length (sources w.plan)) j lj ∙ ap Some zj) row in
    grind (arith, nat_tests)

-- a cut above one that covers goes past each own place
pub covers_past : (w : World) (h : List Item) (se : ℕ) (cut x : Lengths) → Wired w → ((b : ℕ) (n : Node Base) → slice_get w.bases b ≡ Some n → IsLogOf h b n) → covers w se cut ≡ true
    → ((s j : ℕ) → s < w.plan.stages → j < length (sources w.plan) → len_at cut s j ≤ len_at x s j) → Each (IsPast w.plan x) (own_places w.plan h se)
covers_past w h se cut x g logs e more =
    each_flat (IsPast w.plan x) (λ b. told.own_from se b 0 (authors_of b h)) (sources w.plan) (each_in (λ b. Each (IsPast w.plan x) (told.own_from se b 0 (authors_of b h))) (sources w.plan) (λ i b at. of i b at))
  where
    to : (b : ℕ) (n : Node Base) → slice_get w.bases b ≡ Some n → (o : Place) → IsBelow b (after_own se 0 0 (authors_of b h)) o → IsPast w.plan x o
    to b n at o below = λ s j ls lj is.
        let c = covered_at w se cut e s j ls lj in
        let m = more s j ls lj in
        let same : slice_get w.bases (source_at w.plan j) ≡ Some n = ap (slice_get w.bases) (is ∙ below.0) ∙ at in
        let own : own_in se (slice_get w.bases (source_at w.plan j)) ≡ after_own se 0 0 (authors_of b h) = ap (own_in se) same ∙ ap (after_own se 0 0) (sym (logs b n at).authors) in
        let l = below.1 in
        omega (arith, c, m, own, l)

    all : (b : ℕ) (n : Node Base) → slice_get w.bases b ≡ Some n → (xs : List Place) → Each (IsBelow b (after_own se 0 0 (authors_of b h))) xs → Each (IsPast w.plan x) xs
    all b n at [] k = tt
    all b n at (o ∷ xs) k = (to b n at o k.0, all b n at xs k.1)

    of : (i b : ℕ) → slice_get (sources w.plan) i ≡ Some b → Each (IsPast w.plan x) (told.own_from se b 0 (authors_of b h))
    of i b at =
        let small = each_at (λ b. b < _) (sources w.plan) i b at (sources_small w.plan g.good) in
        let n = there w.bases b (subst (λ m. b < m) (sym g.counted) small) in
        all b n.0 n.1 (told.own_from se b 0 (authors_of b h)) (own_below se b 0 0 (authors_of b h) (omega arith))

-- ---- the greater of two cuts
great_line : (p : Layout) (c d : Lengths) (s : ℕ) → s < p.stages → slice_index_or (greatest p c d) s [] ≡ map (λ j. greater (len_at c s j) (len_at d s j)) (range_with_len 0 (length (sources p)))
great_line p c d s lt = get_or-map-range_with_len (λ s. map (λ j. greater (len_at c s j) (len_at d s j)) (range_with_len 0 (length (sources p)))) 0 p.stages s s [] lt (omega arith)

great_at : (p : Layout) (c d : Lengths) (s j : ℕ) → s < p.stages → j < length (sources p) → len_at (greatest p c d) s j ≡ greater (len_at c s j) (len_at d s j)
great_at p c d s j ls lj = ap (λ l. slice_index_or l j 0) (great_line p c d s ls) ∙ get_or-map-range_with_len (λ j. greater (len_at c s j) (len_at d s j)) 0 (length (sources p)) j j 0 lj (omega arith)

great_out : (p : Layout) (c d : Lengths) (s j : ℕ) → (p.stages ≤ s) ⊎ ((s < p.stages) × (length (sources p) ≤ j)) → len_at (greatest p c d) s j ≡ 0
great_out p c d s j (inl le) =
    let size = length-map-range_with_len (λ s. map (λ j. greater (len_at c s j) (len_at d s j)) (range_with_len 0 (length (sources p)))) 0 p.stages in
    ap (λ l. slice_index_or l j 0) (get_or_past (greatest p c d) s [] (omega (arith, size)))
great_out p c d s j (inr r) =
    let size = length-map-range_with_len (λ j. greater (len_at c s j) (len_at d s j)) 0 (length (sources p)) in
    let le = r.1 in
    ap (λ l. slice_index_or l j 0) (great_line p c d s r.0) ∙ get_or_past (map (λ j. greater (len_at c s j) (len_at d s j)) (range_with_len 0 (length (sources p)))) j 0 (omega (arith, size))

-- within the stage shards and sources, or not
pub inside : (p : Layout) (s j : ℕ) → ((s < p.stages) × (j < length (sources p))) ⊎ ((p.stages ≤ s) ⊎ ((s < p.stages) × (length (sources p) ≤ j)))
inside p s j = by (below_or_not s p.stages) (below_or_not j (length (sources p)))
  where
    by : (s < p.stages) ⊎ (p.stages ≤ s) → (j < length (sources p)) ⊎ (length (sources p) ≤ j) → ((s < p.stages) × (j < length (sources p))) ⊎ ((p.stages ≤ s) ⊎ ((s < p.stages) × (length (sources p) ≤ j)))
    by (inl a) (inl b) = inl (a, b)
    by (inl a) (inr b) = inr (inr (a, b))
    by (inr a) b = inr (inl a)

greater_up : (a b n : ℕ) → a ≤ n → b ≤ n → greater a b ≤ n
greater_up a b n l m = by (nat_le a b)
  where
    by : (t : Bool) → cond t b a ≤ n
    by true = m
    by false = l

greater_first : (a b : ℕ) → a ≤ greater a b
greater_first a b = by (nat_le a b) refl
  where
    by : (t : Bool) → nat_le a b ≡ t → a ≤ cond t b a
    by true e = grind (arith, nat_tests)
    by false e = omega arith

greater_second : (a b : ℕ) → b ≤ greater a b
greater_second a b = by (nat_le a b) refl
  where
    by : (t : Bool) → nat_le a b ≡ t → b ≤ cond t b a
    by true e = omega arith
    by false e = grind (arith, nat_tests)

pub great_most : (p : Layout) (c d : Lengths) (n : ℕ) (s j : ℕ) → len_at c s j ≤ n → len_at d s j ≤ n → len_at (greatest p c d) s j ≤ n
great_most p c d n s j l m = by (inside p s j)
  where
    by : ((s < p.stages) × (j < length (sources p))) ⊎ ((p.stages ≤ s) ⊎ ((s < p.stages) × (length (sources p) ≤ j))) → len_at (greatest p c d) s j ≤ n
    by (inl r) = subst (λ x. x ≤ n) (sym (great_at p c d s j r.0 r.1)) (greater_up (len_at c s j) (len_at d s j) n l m)
    by (inr r) = let z = great_out p c d s j r in omega (arith, z)

-- a cut within the logs is 0 outside
within_out : (p : Layout) (h : List Item) (c : Lengths) → IsWithin p h c → (s j : ℕ) → (p.stages ≤ s) ⊎ ((s < p.stages) × (length (sources p) ≤ j)) → len_at c s j ≡ 0
within_out p h c g s j (inl le) = ap (λ l. slice_index_or l j 0) (get_or_past c s [] (let e = g.stages in omega (arith, e, le)))
within_out p h c g s j (inr r) = get_or_past (slice_index_or c s []) j 0 (let e = g.lines s r.0 in let l = r.1 in omega (arith, e, l))

pub great_first : (p : Layout) (h : List Item) (c d l : Lengths) → IsWithin p h l → IsAtMost c l → IsAtMost c (greatest p c d)
great_first p h c d l g m s j = by (inside p s j)
  where
    by : ((s < p.stages) × (j < length (sources p))) ⊎ ((p.stages ≤ s) ⊎ ((s < p.stages) × (length (sources p) ≤ j))) → len_at c s j ≤ len_at (greatest p c d) s j
    by (inl r) = subst (λ x. len_at c s j ≤ x) (sym (great_at p c d s j r.0 r.1)) (greater_first (len_at c s j) (len_at d s j))
    by (inr r) = let z = within_out p h l g s j r in let a = m s j in omega (arith, z, a)

pub great_second : (p : Layout) (c d : Lengths) (s j : ℕ) → s < p.stages → j < length (sources p) → len_at d s j ≤ len_at (greatest p c d) s j
great_second p c d s j ls lj = subst (λ x. len_at d s j ≤ x) (sym (great_at p c d s j ls lj)) (greater_second (len_at c s j) (len_at d s j))

pub great_within : (p : Layout) (h : List Item) (c d l : Lengths) → IsWithin p h l → IsAtMost c l → IsAtMost d l → IsWithin p h (greatest p c d)
great_within p h c d l g m k = record {
  stages = length-map-range_with_len (λ s. map (λ j. greater (len_at c s j) (len_at d s j)) (range_with_len 0 (length (sources p)))) 0 p.stages;
  lines = λ s lt. ap length (great_line p c d s lt) ∙ length-map-range_with_len (λ j. greater (len_at c s j) (len_at d s j)) 0 (length (sources p));
  lengths = λ s j. let x = great_most p c d (len_at l s j) s j (m s j) (k s j) in let y = g.lengths s j in omega (arith, x, y);
}
