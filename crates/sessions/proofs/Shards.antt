-- The shards of all views: each stands once among the readers, and each is there.
use Rattle.std.proofs.Common.{◌≡◌, ◌≢◌, ℕ, zero, suc, ◌+◌, ◌<◌, ◌≤◌, List, [], ◌∷◌, ◌++◌, map, flat_map, length, slice_get, position, Some, refl, ap, sym, ◌∙◌, subst, arith}
use Rattle.std.specs.List.{range_with_len}
use Rattle.row.specs.Bags.{Each}
use Rattle.plan.specs.Layouts.{Layout, view_at}
use Rattle.packet.specs.Readers.{Reader, is_reader, readers, readers_of}
use Rattle.schedule.specs.Codes.{reader_in}
use Rattle.packet.specs.declared.reader.Reader.{Reader as Code}
use Rattle.protocol.proofs.Lists.{each_at, each_map, each_to, map_get}
use Rattle.protocol.proofs.Spots.{each_range, found}
use Rattle.schedule.proofs.Domains.{one_reader}
use Rattle.plan.proofs.OwnTexts.{each_join}

-- two shards are not one
abbrev pub Differs : Reader → Reader → Type 0
Differs r s = r ≢ s

-- no shard is a later one
abbrev pub AreApart : List Reader → Type 0
AreApart [] = Unit {0}
AreApart (r ∷ rs) = Each (Differs r) rs × AreApart rs

apart_append : (xs ys : List Reader) → AreApart xs → AreApart ys → Each (λ x. Each (Differs x) ys) xs → AreApart (xs ++ ys)
apart_append [] ys a b h = b
apart_append (x ∷ xs) ys a b h = (each_join (Differs x) xs ys a.0 h.0, apart_append xs ys a.1 b h.1)

-- those of one view
apart_shards : (i a n : ℕ) → AreApart (map (λ j. record { view = i; shard = j }) (range_with_len a n))
apart_shards i a zero = tt
apart_shards i a (suc n) = (
  each_map (λ (j : ℕ). a < j) (Differs (record { view = i; shard = a })) (λ j. record { view = i; shard = j })
      (λ j lt e. (let s : a ≡ j = ap (λ (r : Reader). r.shard) e in omega (arith, lt, s))) (range_with_len (a + 1) n)
      (each_range (λ j. a < j) (a + 1) n (λ k lt. omega arith)),
  apart_shards i (a + 1) n,
)

of_view : (p : Layout) (i : ℕ) → Each (λ (r : Reader). r.view ≡ i) (readers_of p i)
of_view p i = by (range_with_len 0 (view_at p i).shards)
  where
    by : (js : List ℕ) → Each (λ (r : Reader). r.view ≡ i) (map (λ j. record { view = i; shard = j }) js)
    by [] = tt
    by (j ∷ js) = (refl, by js)

of_later : (p : Layout) (a n : ℕ) → Each (λ (r : Reader). a ≤ r.view) (flat_map (readers_of p) (range_with_len a n))
of_later p a zero = tt
of_later p a (suc n) =
    each_join (λ (r : Reader). a ≤ r.view) (readers_of p a) (flat_map (readers_of p) (range_with_len (a + 1) n))
    (each_to (λ (r : Reader). r.view ≡ a) (λ (r : Reader). a ≤ r.view) (λ r e. omega (arith, e)) (readers_of p a) (of_view p a))
    (each_to (λ (r : Reader). a + 1 ≤ r.view) (λ (r : Reader). a ≤ r.view) (λ r le. omega (arith, le)) (flat_map (readers_of p) (range_with_len (a + 1) n)) (of_later p (a + 1) n))

apart_views : (p : Layout) (a n : ℕ) → AreApart (flat_map (readers_of p) (range_with_len a n))
apart_views p a zero = tt
apart_views p a (suc n) =
    apart_append (readers_of p a) (flat_map (readers_of p) (range_with_len (a + 1) n)) (apart_shards a 0 (view_at p a).shards) (apart_views p (a + 1) n)
    (each_to (λ (r : Reader). r.view ≡ a) (λ (r : Reader). Each (Differs r) (flat_map (readers_of p) (range_with_len (a + 1) n))) (λ r e.
    each_to (λ (s : Reader). a + 1 ≤ s.view) (Differs r) (λ s le same. (let v : r.view ≡ s.view = ap (λ (q : Reader). q.view) same in omega (arith, e, le, v)))
    (flat_map (readers_of p) (range_with_len (a + 1) n)) (of_later p (a + 1) n)) (readers_of p a) (of_view p a))

pub readers_apart : (p : Layout) → AreApart (readers p)
readers_apart p = apart_views p 0 (length p.views)

-- two places of one shard are one place
pub once : (rs : List Reader) (n m : ℕ) (r : Reader) → AreApart rs → slice_get rs n ≡ Some r → slice_get rs m ≡ Some r → n ≡ m
once [] n m r a x y = cc
once (q ∷ rs) zero zero r a x y = refl
once (q ∷ rs) zero (suc m) r a x y = absurd (each_at (Differs q) rs m r y a.0 cc)
once (q ∷ rs) (suc n) zero r a x y = absurd (each_at (Differs q) rs n r x a.0 cc)
once (q ∷ rs) (suc n) (suc m) r a x y = ap suc (once rs n m r a.1 x y)

map_got : (xs : List Code) (n : ℕ) (c : Code) → slice_get xs n ≡ Some c → slice_get (map reader_in xs) n ≡ Some (reader_in c)
map_got xs n c at = map_get reader_in xs n c at

-- the place that was found is the shard's
pub place_found : (p : Layout) (xs : List Code) (i j n : ℕ) → map reader_in xs ≡ readers p → position (λ r. is_reader i j (reader_in r)) xs ≡ Some n → slice_get (readers p) n ≡ Some (record { view = i; shard = j })
place_found p xs i j n are e =
    let f = found (λ r. is_reader i j (reader_in r)) xs n e in
    ap (λ rs. slice_get rs n) (sym are) ∙ (map_got xs n f.it f.at ∙ ap Some (one_reader i j (reader_in f.it) f.passes))

-- ---- ranges
shards_there : (p : Layout) (i : ℕ) → Each (λ (r : Reader). (r.view ≡ i) × (r.shard < (view_at p i).shards)) (readers_of p i)
shards_there p i =
    each_map (λ (j : ℕ). j < (view_at p i).shards) (λ (r : Reader). (r.view ≡ i) × (r.shard < (view_at p i).shards)) (λ j. record { view = i; shard = j }) (λ j lt. (refl, lt)) (range_with_len 0 (view_at p i).shards)
    (each_range (λ j. j < (view_at p i).shards) 0 (view_at p i).shards (λ k lt. omega (arith, lt)))

-- a reader is a shard of a view of the plan
abbrev pub IsThere : Layout → Reader → Type 0
IsThere p r = (r.view < length p.views) × (r.shard < (view_at p r.view).shards)

readers_there : (p : Layout) (a n : ℕ) → a + n ≤ length p.views → Each (IsThere p) (flat_map (readers_of p) (range_with_len a n))
readers_there p a zero le = tt
readers_there p a (suc n) le =
    each_join (IsThere p) (readers_of p a) (flat_map (readers_of p) (range_with_len (a + 1) n))
    (each_to (λ (r : Reader). (r.view ≡ a) × (r.shard < (view_at p a).shards)) (IsThere p) (λ r h. (omega (arith, h.0, le), subst (λ v. r.shard < (view_at p v).shards) (sym h.0) h.1)) (readers_of p a) (shards_there p a))
    (readers_there p (a + 1) n (omega (arith, le)))

pub each_there : (p : Layout) → Each (IsThere p) (readers p)
each_there p = readers_there p 0 (length p.views) (omega arith)
