-- Floors with one of them set, and the cuts of a fence.
use Rattle.std.proofs.Common.{◌≡◌, ◌⊎◌, ℕ, zero, suc, ◌+◌, ◌<◌, List, [], ◌∷◌, ◌++◌, length, map, replicate, slice_get, slice_index_or, slice_set, take, Some, refl, ap, sym, ◌∙◌, subst, arith, inl, inr}
use Rattle.std.proofs.lemmas.List.{length-map, length-replicate, get_or-set_same}
use mathlib.Core.List.{IsPrefix}
use Rattle.row.specs.Bags.{Each}
use Rattle.plan.specs.Layouts.{ViewLayout, Layout, no_view, view_at}
use Rattle.model.specs.Histories.{Lengths, Floors, floor_at}
use Rattle.model.specs.Cuts.{IsAtMost}
use Rattle.model.specs.Tables.{IsTable, even_floors, with_floor}
use Rattle.model.proofs.CutLaws.{row_at}
use Rattle.model.proofs.Growth.{at_most_trans}
use Rattle.book.specs.Fronts.{FrontView}
use Rattle.book.specs.Sessions.{CutView, FloorsView}
use Rattle.packet.specs.Readers.{Reader, readers}
use Rattle.protocol.proofs.Lists.{map_get}
use Rattle.shown.specs.Snapshots.{Snapshot, IsLater}
use Rattle.sessions.specs.Callers.{reader_of, whole_cut}
use Rattle.sessions.specs.Sights.{HasAll, IsCut, IsCutAt}
use Rattle.sessions.proofs.Callers.{whole_later}
use Rattle.sessions.proofs.Shards.{once, readers_apart}
use Rattle.sessions.proofs.Later.{reader_same, sight_of}
use Rattle.plan.proofs.OwnTexts.{each_join}

-- ---- one place set
set_or : {X : Type 0} (xs : List X) (i : ℕ) (x d : X) (k : ℕ) → ((k ≡ i) × (slice_index_or (slice_set xs i x) k d ≡ x)) ⊎ (slice_index_or (slice_set xs i x) k d ≡ slice_index_or xs k d)
set_or [] i x d k = inr refl
set_or (y ∷ xs) zero x d zero = inl (refl, refl)
set_or (y ∷ xs) zero x d (suc k) = inr refl
set_or (y ∷ xs) (suc i) x d zero = inr refl
set_or (y ∷ xs) (suc i) x d (suc k) =
    elim (set_or xs i x d k) as (λ _. ((suc k ≡ suc i) × (slice_index_or (slice_set xs i x) k d ≡ x)) ⊎ (slice_index_or (slice_set xs i x) k d ≡ slice_index_or xs k d)) [ inl r ↦ inl (ap suc r.0, r.1) | inr r ↦ inr r ]

-- a floor afterwards is the one that was set, or what it was
pub floor_with : (F : Floors) (v j : ℕ) (c : Lengths) (a b : ℕ) → ((a ≡ v) × (b ≡ j) × (floor_at (with_floor F v j c) a b ≡ c)) ⊎ (floor_at (with_floor F v j c) a b ≡ floor_at F a b)
floor_with F v j c a b = by_view (set_or F v (slice_set (slice_index_or F v []) j c) [] a)
  where
    by_shard : a ≡ v → slice_index_or (with_floor F v j c) a [] ≡ slice_set (slice_index_or F v []) j c
        → ((b ≡ j) × (slice_index_or (slice_set (slice_index_or F v []) j c) b [] ≡ c)) ⊎ (slice_index_or (slice_set (slice_index_or F v []) j c) b [] ≡ slice_index_or (slice_index_or F v []) b [])
        → ((a ≡ v) × (b ≡ j) × (floor_at (with_floor F v j c) a b ≡ c)) ⊎ (floor_at (with_floor F v j c) a b ≡ floor_at F a b)
    by_shard ea er (inl f) = inl (ea, f.0, ap (λ l. slice_index_or l b []) er ∙ f.1)
    by_shard ea er (inr f) = inr (ap (λ l. slice_index_or l b []) er ∙ (f ∙ ap (λ x. floor_at F x b) (sym ea)))

    by_view : ((a ≡ v) × (slice_index_or (with_floor F v j c) a [] ≡ slice_set (slice_index_or F v []) j c)) ⊎ (slice_index_or (with_floor F v j c) a [] ≡ slice_index_or F a [])
        → ((a ≡ v) × (b ≡ j) × (floor_at (with_floor F v j c) a b ≡ c)) ⊎ (floor_at (with_floor F v j c) a b ≡ floor_at F a b)
    by_view (inl e) = by_shard e.0 e.1 (set_or (slice_index_or F v []) j c [] b)
    by_view (inr e) = inr (ap (λ l. slice_index_or l b []) e)

floor_same : (p : Layout) (F : Floors) (v j : ℕ) (c : Lengths) → IsTable p F → v < length p.views → j < (view_at p v).shards → floor_at (with_floor F v j c) v j ≡ c
floor_same p F v j c t lt jt =
    rw (get_or-set_same F v (slice_set (slice_index_or F v []) j c) [] (omega (arith, t.views))) (get_or-set_same (slice_index_or F v []) j c [] (omega (arith, t.shards v lt)))

pub even_table : (p : Layout) (line : List ℕ) → IsTable p (even_floors p line)
even_table p line = record {
  views = length-map p.views (λ (w : ViewLayout). replicate w.shards (replicate p.stages line));
  shards = λ v lv. ap length (row_at (λ (w : ViewLayout). replicate w.shards (replicate p.stages line)) p.views v no_view lv) ∙ length-replicate (view_at p v).shards (replicate p.stages line);
}

-- ---- elements by their places
pub each_get : (P Q : Snapshot → Type 0) (xs : List Snapshot) → ((n : ℕ) (z : Snapshot) → slice_get xs n ≡ Some z → P z → Q z) → Each P xs → Each Q xs
each_get P Q [] g h = tt
each_get P Q (x ∷ xs) g h = (g 0 x refl h.0, each_get P Q xs (λ n z at. g (suc n) z at) h.1)

each_take : (P Q : Snapshot → Type 0) (xs : List Snapshot) (i : ℕ) → ((n : ℕ) (z : Snapshot) → n < i → slice_get xs n ≡ Some z → P z → Q z) → Each P (take i xs) → Each Q (take i xs)
each_take P Q xs zero g h = tt
each_take P Q [] (suc i) g h = tt
each_take P Q (x ∷ xs) (suc i) g h = (g 0 x (omega arith) refl h.0, each_take P Q xs i (λ n z lt at. g (suc n) z (omega (arith, lt)) at) h.1)

pub take_set : (xs : List Snapshot) (i : ℕ) (x y : Snapshot) → slice_get xs i ≡ Some x → take (suc i) (slice_set xs i y) ≡ take i xs ++ y ∷ []
take_set [] i x y at = cc
take_set (z ∷ xs) zero x y at = refl
take_set (z ∷ xs) (suc i) x y at = ap (λ l. z ∷ l) (take_set xs i x y at)

-- ---- one more cut
module _ (p : Layout) (fs : List FrontView) (shown : List Snapshot) (i v j : ℕ) (x y : Snapshot) (old new : FloorsView) where
  pub cuts_next : map reader_of shown ≡ readers p → slice_get (readers p) i ≡ Some (record { view = v; shard = j }) → v < length p.views → j < (view_at p v).shards
      → slice_get shown i ≡ Some x → IsLater x y → IsTable p old.floors → new.floors ≡ with_floor old.floors v j y.lengths → IsPrefix old.seen new.seen
      → IsAtMost y.lengths (whole_cut p new.seen) → HasAll p fs y.lengths → Each (IsCut p fs old) (take i shown) → Each (IsCut p fs new) (take (suc i) (slice_set shown i y))
  cuts_next are at lv lj there later table set grown reached all each =
      subst (Each (IsCut p fs new)) (sym (take_set shown i x y there))
      (each_join (IsCut p fs new) (take i shown) (y ∷ []) (each_take (IsCut p fs old) (IsCut p fs new) shown i before each) (it, tt))
    where
      of : reader_of y ≡ record { view = v; shard = j }
      of = reader_same x y later ∙ sight_of p shown are i v j x there at

      it : IsCut p fs new y
      it = record {
        floor = ap (λ (r : Reader). floor_at new.floors r.view r.shard) of ∙ (ap (λ (F : Floors). floor_at F v j) set ∙ floor_same p old.floors v j y.lengths table lv lj);
        reached = reached;
        all = all;
      }

      apart : (n : ℕ) (z : Snapshot) → n < i → slice_get shown n ≡ Some z → z.view ≡ v → z.shard ≡ j → ⊥
      apart n z lt got ev ej =
          let e : reader_of z ≡ record { view = v; shard = j } = ap (λ a. record { view = a; shard = z.shard }) ev ∙ ap (λ b. record { view = v; shard = b }) ej in
          let g : slice_get (readers p) n ≡ Some (record { view = v; shard = j }) = ap (λ rs. slice_get rs n) (sym are) ∙ (map_get reader_of shown n z got ∙ ap Some e) in
          let s : n ≡ i = once (readers p) n i (record { view = v; shard = j }) (readers_apart p) g at in
          omega (arith, lt, s)

      floor_of : (z : Snapshot) → (z.view ≡ v → z.shard ≡ j → ⊥) → floor_at old.floors z.view z.shard ≡ z.lengths
          → ((z.view ≡ v) × (z.shard ≡ j) × (floor_at (with_floor old.floors v j y.lengths) z.view z.shard ≡ y.lengths)) ⊎ (floor_at (with_floor old.floors v j y.lengths) z.view z.shard ≡ floor_at old.floors z.view z.shard)
          → floor_at new.floors z.view z.shard ≡ z.lengths
      floor_of z off was (inl e) = absurd (off e.0 e.1)
      floor_of z off was (inr e) = ap (λ (F : Floors). floor_at F z.view z.shard) set ∙ (e ∙ was)

      before : (n : ℕ) (z : Snapshot) → n < i → slice_get shown n ≡ Some z → IsCut p fs old z → IsCut p fs new z
      before n z lt got c = record {
        floor = floor_of z (apart n z lt got) c.floor (floor_with old.floors v j y.lengths z.view z.shard);
        reached = at_most_trans z.lengths (whole_cut p old.seen) (whole_cut p new.seen) c.reached (whole_later p old.seen new.seen grown);
        all = c.all;
      }

-- the cut of the shard at the next place
pub set_next : (p : Layout) (fs : List FrontView) (shown next : List Snapshot) (i v j : ℕ) (cut : CutView) (old new : FloorsView) → IsCutAt shown next i cut → map reader_of shown ≡ readers p → slice_get (readers p) i ≡ Some (record { view = v; shard = j }) → v < length p.views → j < (view_at p v).shards
    → IsTable p old.floors → new.floors ≡ with_floor old.floors v j cut.lengths → IsPrefix old.seen new.seen → IsAtMost cut.lengths (whole_cut p new.seen) → HasAll p fs cut.lengths → Each (IsCut p fs old) (take i shown) → Each (IsCut p fs new) (take (i + 1) next)
set_next p fs shown next i v j cut old new at are reader lv lj table set grown reached all each =
    let n : i + 1 ≡ suc i = omega arith in
    let floors : new.floors ≡ with_floor old.floors v j at.is.lengths = set ∙ ap (λ (d : Lengths). with_floor old.floors v j d) at.cut in
    let whole = subst (λ (d : Lengths). IsAtMost d (whole_cut p new.seen)) at.cut reached in
    let have = subst (HasAll p fs) at.cut all in
    let done = cuts_next p fs shown i v j at.was at.is old new are reader lv lj at.there at.later table floors grown whole have each in
    subst (λ m. Each (IsCut p fs new) (take m next)) (sym n) (subst (λ (l : List Snapshot). Each (IsCut p fs new) (take (suc i) l)) (sym at.set) done)
