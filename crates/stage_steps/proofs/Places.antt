-- The place of a view shard among those of all views.
use Rattle.std.proofs.Common.{◌≡◌, ℕ, zero, suc, ◌+◌, ◌<◌, ◌==◌, Bool, true, false, cond, ◌&&◌, List, [], ◌∷◌, ◌++◌, map, flat_map, length, refl, ap, sym, ◌∙◌, subst, arith, length-append}
use Rattle.std.specs.List.{range_with_len}
use Rattle.std.proofs.lemmas.Bool.{eq-eqb, ne_eqb}
use Rattle.std.proofs.lemmas.List.{length-map}
use Rattle.std.proofs.lemmas.List.FromFn.{length-range_with_len}
use Rattle.row.specs.Bags.{Each}
use Rattle.plan.proofs.Ranges.{flat_map_more}
use Rattle.plan.specs.Layouts.{Layout, view_at}
use Rattle.packet.specs.Messages.{to_one}
use Rattle.packet.specs.Readers.{Reader, readers, readers_of, is_reader}

-- the test passes at place k alone
abbrev pub IsSpot : (Reader → Bool) → List Reader → ℕ → Type 0
IsSpot test [] k = ⊥
IsSpot test (r ∷ rs) zero = (test r ≡ true) × Each (λ r. test r ≡ false) rs
IsSpot test (r ∷ rs) (suc k) = (test r ≡ false) × IsSpot test rs k

module _ (test : Reader → Bool) where
  past : {X : Type 0} (xs : List X) (rs : List Reader) (b e : ℕ) → e < b → Each (λ r. test r ≡ false) rs → map (λ r. cond (r == e) xs []) (range_with_len b (length rs)) ≡ map (λ r. cond (test r) xs []) rs
  past xs [] b e lt h = refl
  past xs (r ∷ rs) b e lt h = rw (ne_eqb b e (λ is. omega (arith, lt, is)), h.0, past xs rs (b + 1) e (omega (arith, lt)) h.1) refl

  spot_is : {X : Type 0} (xs : List X) (rs : List Reader) (b e k : ℕ) → e ≡ b + k → IsSpot test rs k → map (λ r. cond (r == e) xs []) (range_with_len b (length rs)) ≡ map (λ r. cond (test r) xs []) rs
  spot_is xs [] b e k at h = absurd h
  spot_is xs (r ∷ rs) b e zero at h = rw (eq-eqb b e (omega (arith, at)), h.0, past xs rs (b + 1) e (omega (arith, at)) h.1) refl
  spot_is xs (r ∷ rs) b e (suc k) at h = rw (ne_eqb b e (λ is. omega (arith, at, is)), h.0, spot_is xs rs (b + 1) e k (omega (arith, at)) h.1) refl

  spot_small : (rs : List Reader) (k : ℕ) → IsSpot test rs k → k < length rs
  spot_small [] k h = absurd h
  spot_small (r ∷ rs) zero h = omega arith
  spot_small (r ∷ rs) (suc k) h = let e = spot_small rs k h.1 in omega (arith, e)

  each_both : (xs ys : List Reader) → Each (λ r. test r ≡ false) xs → Each (λ r. test r ≡ false) ys → Each (λ r. test r ≡ false) (xs ++ ys)
  each_both [] ys a b = b
  each_both (x ∷ xs) ys a b = (a.0, each_both xs ys a.1 b)

  spot_then : (xs ys : List Reader) (k : ℕ) → IsSpot test xs k → Each (λ r. test r ≡ false) ys → IsSpot test (xs ++ ys) k
  spot_then [] ys k h e = absurd h
  spot_then (x ∷ xs) ys zero h e = (h.0, each_both xs ys h.1 e)
  spot_then (x ∷ xs) ys (suc k) h e = (h.0, spot_then xs ys k h.1 e)

  spot_after : (xs ys : List Reader) (k : ℕ) → Each (λ r. test r ≡ false) xs → IsSpot test ys k → IsSpot test (xs ++ ys) (length xs + k)
  spot_after [] ys k e h = let z : 0 + k ≡ k = omega arith in subst (IsSpot test ys) (sym z) h
  spot_after (x ∷ xs) ys k e h = let z : suc (length xs) + k ≡ suc (length xs + k) = omega arith in subst (IsSpot test (x ∷ xs ++ ys)) (sym z) (e.0, spot_after xs ys k e.1 h)

module _ (p : Layout) (i j : ℕ) where
  abbrev test : Reader → Bool
  test = is_reader i j

  abbrev of_view : ℕ → ℕ → Reader
  of_view v m = record { view = v; shard = m }

  other_view : (v : ℕ) (ms : List ℕ) → (v == i) ≡ false → Each (λ r. test r ≡ false) (map (of_view v) ms)
  other_view v [] e = tt
  other_view v (m ∷ ms) e = (ap (λ b. b && (m == j)) e, other_view v ms e)

  other_shards : (a n : ℕ) → j < a → Each (λ r. test r ≡ false) (map (of_view i) (range_with_len a n))
  other_shards a zero lt = tt
  other_shards a (suc n) lt = (rw (eq-eqb i i refl) (ne_eqb a j (λ is. omega (arith, lt, is))), other_shards (a + 1) n (omega (arith, lt)))

  own_shard : (a n k : ℕ) → j ≡ a + k → k < n → IsSpot test (map (of_view i) (range_with_len a n)) k
  own_shard a zero k at lt = absurd (omega (arith, lt))
  own_shard a (suc n) zero at lt = (rw (eq-eqb i i refl) (eq-eqb a j (omega (arith, at))), other_shards (a + 1) n (omega (arith, at)))
  own_shard a (suc n) (suc k) at lt = (rw (eq-eqb i i refl) (ne_eqb a j (λ is. omega (arith, at, is))), own_shard (a + 1) n k (omega (arith, at)) (omega (arith, lt)))

  later_views : (a n : ℕ) → i < a → Each (λ r. test r ≡ false) (flat_map (readers_of p) (range_with_len a n))
  later_views a zero lt = tt
  later_views a (suc n) lt = each_both test (readers_of p a) (flat_map (readers_of p) (range_with_len (a + 1) n)) (other_view a (range_with_len 0 (view_at p a).shards) (ne_eqb a i (λ is. omega (arith, lt, is)))) (later_views (a + 1) n (omega (arith, lt)))

  own_view : (a n m : ℕ) → i ≡ a + m → m < n → j < (view_at p i).shards → IsSpot test (flat_map (readers_of p) (range_with_len a n)) (length (flat_map (readers_of p) (range_with_len a m)) + j)
  own_view a zero m at lt small = absurd (omega (arith, lt))
  own_view a (suc n) zero at lt small =
      let e : a ≡ i = omega (arith, at) in
      let z : 0 + j ≡ j = omega arith in
      let own : IsSpot test (readers_of p i) j = own_shard 0 (view_at p i).shards j (omega arith) small in
      subst (IsSpot test (readers_of p a ++ flat_map (readers_of p) (range_with_len (a + 1) n))) (sym z)
      (spot_then test (readers_of p a) (flat_map (readers_of p) (range_with_len (a + 1) n)) j (subst (λ v. IsSpot test (readers_of p v) j) (sym e) own) (later_views (a + 1) n (omega (arith, at))))
  own_view a (suc n) (suc m) at lt small =
      let before = flat_map (readers_of p) (range_with_len (a + 1) m) in
      let rest = own_view (a + 1) n m (omega (arith, at)) (omega (arith, lt)) small in
      let count : length (readers_of p a) + (length before + j) ≡ length (readers_of p a ++ before) + j = omega (arith, length-append (readers_of p a) before) in
      subst (IsSpot test (readers_of p a ++ flat_map (readers_of p) (range_with_len (a + 1) n))) count
      (spot_after test (readers_of p a) (flat_map (readers_of p) (range_with_len (a + 1) n)) (length before + j) (other_view a (range_with_len 0 (view_at p a).shards) (ne_eqb a i (λ is. omega (arith, at, is)))) rest)

  module _ (e : ℕ) (at : e ≡ j + length (flat_map (readers_of p) (range_with_len 0 i))) (there : i < length p.views) (small : j < (view_at p i).shards) where
    spot : IsSpot test (readers p) e
    spot = let s = own_view 0 (length p.views) i (omega arith) there small in let z : length (flat_map (readers_of p) (range_with_len 0 i)) + j ≡ e = omega (arith, at) in subst (IsSpot test (readers p)) z s

    pub edge_below : e < length (readers p)
    edge_below = spot_small test (readers p) e spot

    pub edge_place : {X : Type 0} (xs : List X) → to_one (length (readers p)) e xs ≡ map (λ r. cond (is_reader i j r) xs []) (readers p)
    edge_place xs = spot_is test xs (readers p) 0 e e (omega arith) spot

-- one view more
pub edge_more : (p : Layout) (j v edge more : ℕ) → edge ≡ j + length (flat_map (readers_of p) (range_with_len 0 v)) → more ≡ (view_at p v).shards → edge + more ≡ j + length (flat_map (readers_of p) (range_with_len 0 (v + 1)))
edge_more p j v edge more is count =
    let whole = ap length (flat_map_more (readers_of p) v) ∙ length-append (flat_map (readers_of p) (range_with_len 0 v)) (readers_of p v) in
    let own : length (readers_of p v) ≡ (view_at p v).shards = length-map (range_with_len 0 (view_at p v).shards) (of_view p v j v) ∙ length-range_with_len 0 (view_at p v).shards in
    omega (arith, is, count, whole, own)
