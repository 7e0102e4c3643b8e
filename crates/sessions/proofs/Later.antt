-- What a session has looked at, after one more look.
use Rattle.std.proofs.Common.{◌≡◌, ℕ, zero, suc, ◌<◌, List, [], ◌∷◌, map, length, slice_get, slice_set, Some, refl, ap, sym, ◌∙◌, subst}
use Rattle.std.proofs.lemmas.Option.{slice_get_within}
use Rattle.row.specs.Bags.{Each}
use Rattle.plan.specs.Layouts.{Layout, view_at}
use Rattle.model.specs.Histories.{Floors, floor_at}
use Rattle.model.specs.Cuts.{IsAtMost}
use Rattle.model.proofs.Growth.{at_most_trans}
use Rattle.packet.specs.Readers.{Reader, readers}
use Rattle.shown.specs.Snapshots.{Snapshot, IsLater}
use Rattle.shown.proofs.Rises.{later_self, later_trans}
use Rattle.protocol.proofs.Lists.{map_get}
use Rattle.sessions.proofs.Shards.{once, readers_apart}
use Rattle.sessions.specs.Callers.{AreLater, IsAbove, IsSight, reader_of}
use Rattle.protocol.proofs.Spots.{reader_in}

pub all_self : (xs : List Snapshot) → AreLater xs xs
all_self [] = tt
all_self (x ∷ xs) = (later_self x, all_self xs)

pub all_trans : (xs ys zs : List Snapshot) → AreLater xs ys → AreLater ys zs → AreLater xs zs
all_trans [] [] [] a b = tt
all_trans [] [] (z ∷ zs) a b = absurd b
all_trans [] (y ∷ ys) zs a b = absurd a
all_trans (x ∷ xs) [] zs a b = absurd a
all_trans (x ∷ xs) (y ∷ ys) [] a b = absurd b
all_trans (x ∷ xs) (y ∷ ys) (z ∷ zs) a b = (later_trans x y z a.0 b.0, all_trans xs ys zs a.1 b.1)

pub all_set : (xs : List Snapshot) (i : ℕ) (x y : Snapshot) → slice_get xs i ≡ Some x → IsLater x y → AreLater xs (slice_set xs i y)
all_set [] i x y at l = cc
all_set (z ∷ xs) zero x y at l = let e : x ≡ z = cc in (subst (λ u. IsLater u y) e l, all_self xs)
all_set (z ∷ xs) (suc i) x y at l = (later_self z, all_set xs i x y at l)

pub reader_same : (x y : Snapshot) → IsLater x y → reader_of y ≡ reader_of x
reader_same x y l = ap (λ v. record { view = v; shard = y.shard }) l.view ∙ ap (λ j. record { view = x.view; shard = j }) l.shard

pub all_readers : (xs ys : List Snapshot) → AreLater xs ys → map reader_of ys ≡ map reader_of xs
all_readers [] [] a = refl
all_readers [] (y ∷ ys) a = absurd a
all_readers (x ∷ xs) [] a = absurd a
all_readers (x ∷ xs) (y ∷ ys) a = ap (λ (r : Reader). r ∷ map reader_of ys) (reader_same x y a.0) ∙ ap (λ rs. reader_of x ∷ rs) (all_readers xs ys a.1)

pub above_later : (F : Floors) (xs ys : List Snapshot) → AreLater xs ys → Each (IsAbove F) xs → Each (IsAbove F) ys
above_later F [] [] a h = tt
above_later F [] (y ∷ ys) a h = absurd a
above_later F (x ∷ xs) [] a h = absurd a
above_later F (x ∷ xs) (y ∷ ys) a h = (
  subst (λ (r : Reader). IsAtMost (floor_at F r.view r.shard) y.lengths) (sym (reader_same x y a.0)) (at_most_trans (floor_at F x.view x.shard) x.lengths y.lengths h.0 a.0.cut),
  above_later F xs ys a.1 h.1,
)

-- ---- the snapshot of a shard
got_map : (xs : List Snapshot) (n : ℕ) (r : Reader) → slice_get (map reader_of xs) n ≡ Some r → (s : Snapshot) × (slice_get xs n ≡ Some s)
got_map [] n r at = cc
got_map (x ∷ xs) zero r at = (x, refl)
got_map (x ∷ xs) (suc n) r at = got_map xs n r at

module _ (p : Layout) (shown : List Snapshot) (are : map reader_of shown ≡ readers p) where
  pub sight_at : (n : ℕ) (r : Reader) → slice_get (readers p) n ≡ Some r → (s : Snapshot) × (slice_get shown n ≡ Some s)
  sight_at n r at = got_map shown n r (ap (λ rs. slice_get rs n) are ∙ at)

  pub sight_of : (n v j : ℕ) (s : Snapshot) → slice_get shown n ≡ Some s → slice_get (readers p) n ≡ Some (record { view = v; shard = j }) → reader_of s ≡ record { view = v; shard = j }
  sight_of n v j s there at =
      let e : slice_get (readers p) n ≡ Some (reader_of s) = ap (λ rs. slice_get rs n) (sym are) ∙ map_get reader_of shown n s there in
      cc

  pub sight_is : (n v j : ℕ) (s : Snapshot) → slice_get shown n ≡ Some s → slice_get (readers p) n ≡ Some (record { view = v; shard = j }) → IsSight shown v j s
  sight_is n v j s there at = record { place = n; there = there; of = sight_of n v j s there at }

  -- two of one shard are one
  pub sight_once : (n m : ℕ) (s t : Snapshot) → slice_get shown n ≡ Some s → slice_get shown m ≡ Some t → reader_of s ≡ reader_of t → s ≡ t
  sight_once n m s t x y e =
      let a : slice_get (readers p) n ≡ Some (reader_of s) = ap (λ rs. slice_get rs n) (sym are) ∙ map_get reader_of shown n s x in
      let b : slice_get (readers p) m ≡ Some (reader_of s) = ap (λ rs. slice_get rs m) (sym are) ∙ map_get reader_of shown m t y ∙ ap Some (sym e) in
      let same : n ≡ m = once (readers p) n m (reader_of s) (readers_apart p) a b in
      let z : slice_get shown n ≡ Some t = ap (slice_get shown) same ∙ y in
      cc

  -- each shard of each view has one
  pub sight_in : (v j : ℕ) → v < length p.views → j < (view_at p v).shards → (s : Snapshot) × IsSight shown v j s
  sight_in v j lv lj =
      let r = reader_in p v j lv lj in
      let s = sight_at r.0 (record { view = v; shard = j }) r.1 in
      (s.0, sight_is r.0 v j s.0 s.1 r.1)

  -- a shard's place has a snapshot
  pub sight_within : (n : ℕ) (r : Reader) → slice_get (readers p) n ≡ Some r → n < length shown
  sight_within n r at = let s = sight_at n r at in slice_get_within shown n s.0 s.1
