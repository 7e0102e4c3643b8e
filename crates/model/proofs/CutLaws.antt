-- Cuts and floors: one line for all stage shards, and one length set.
use Rattle.std.proofs.Common.{◌≡◌, ℕ, zero, suc, ◌<◌, ◌≤◌, List, [], ◌∷◌, length, take, map, replicate, slice_index_or, refl, ap, ◌∙◌, arith, ◌≢◌, ◌==◌, true, false, slice_set, get_or-set_same, get_or-set_other, length-set, ◌⊎◌, inl, inr}
use Rattle.plan.specs.Layouts.{ViewLayout, Layout}
use Rattle.model.specs.Histories.{Item, Lengths, len_at, log_of}
use Rattle.model.specs.Places.{sources, source_at}
use Rattle.model.specs.Cuts.{IsWithin, line_of, fronts_of}
use Rattle.model.specs.Tables.{with_length, with_front}
use Rattle.std.proofs.lemmas.Bool.Decides.{eqb_tells}

-- ---- one line for all stage shards
pub row_at : (F : ViewLayout → List Lengths) (vs : List ViewLayout) (v : ℕ) (d : ViewLayout) → v < length vs → slice_index_or (map F vs) v [] ≡ F (slice_index_or vs v d)
row_at F [] v d lt = absurd (omega arith)
row_at F (w ∷ vs) zero d lt = refl
row_at F (w ∷ vs) (suc v) d lt = row_at F vs v d (omega arith)

pub same_in : {A : Type 0} (x d : A) (n j : ℕ) → j < n → slice_index_or (replicate n x) j d ≡ x
same_in x d zero j lt = absurd (omega arith)
same_in x d (suc n) zero lt = refl
same_in x d (suc n) (suc j) lt = same_in x d n j (omega arith)

line_set : (h : List Item) (bs ns : List ℕ) (j m : ℕ) → j < length bs → line_of h bs (slice_set ns j m) ≡ slice_set (line_of h bs ns) j (take m (log_of (slice_index_or bs j 0) h))
line_set h [] ns j m lt = absurd (omega arith)
line_set h (b ∷ bs) [] j m lt = refl
line_set h (b ∷ bs) (n ∷ ns) zero m lt = refl
line_set h (b ∷ bs) (n ∷ ns) (suc j) m lt = ap (λ t. take n (log_of b h) ∷ t) (line_set h bs ns j m (omega arith))

pub fronts_set : (p : Layout) (h : List Item) (cut : Lengths) (s j m : ℕ) → j < length (sources p) → fronts_of p h (with_length cut s j m) ≡ with_front (fronts_of p h cut) s j (take m (log_of (source_at p j) h))
fronts_set p h [] s j m lt = refl
fronts_set p h (ns ∷ nss) zero j m lt = ap (λ t. t ∷ fronts_of p h nss) (line_set h (sources p) ns j m lt)
fronts_set p h (ns ∷ nss) (suc s) j m lt = ap (λ t. line_of h (sources p) ns ∷ t) (fronts_set p h nss s j m lt)

pub within_set : (p : Layout) (h : List Item) (cut : Lengths) (s b n : ℕ) → IsWithin p h cut → s < p.stages → b < length (sources p) → n ≤ length (log_of (source_at p b) h) → IsWithin p h (with_length cut s b n)
within_set p h cut s b n w ls lb le = record {
  stages = length-set cut s _ ∙ w.stages;
  lines = λ t lt. lines_at t lt (eqb_tells t s);
  lengths = λ t c. lengths_at t c (eqb_tells t s) (eqb_tells c b);
}
  where
    lines_at : (t : ℕ) → t < p.stages → (((t == s) ≡ true) × (t ≡ s)) ⊎ (((t == s) ≡ false) × (t ≢ s)) → length (slice_index_or (with_length cut s b n) t []) ≡ length (sources p)
    lines_at t lt (inl e) = rw (e.1, get_or-set_same cut s (slice_set (slice_index_or cut s []) b n) [] (omega (arith, w.stages)), length-set (slice_index_or cut s []) b n) (w.lines s ls)
    lines_at t lt (inr e) = rw (get_or-set_other cut s t (slice_set (slice_index_or cut s []) b n) [] e.1) (w.lines t lt)

    lengths_at : (t c : ℕ) → (((t == s) ≡ true) × (t ≡ s)) ⊎ (((t == s) ≡ false) × (t ≢ s)) → (((c == b) ≡ true) × (c ≡ b)) ⊎ (((c == b) ≡ false) × (c ≢ b)) → len_at (with_length cut s b n) t c ≤ length (log_of (source_at p c) h)
    lengths_at t c (inl e) (inl f) = rw (e.1, f.1, get_or-set_same cut s (slice_set (slice_index_or cut s []) b n) [] (omega (arith, w.stages)), get_or-set_same (slice_index_or cut s []) b n 0 (omega (arith, w.lines s ls))) le
    lengths_at t c (inl e) (inr f) = rw (e.1, get_or-set_same cut s (slice_set (slice_index_or cut s []) b n) [] (omega (arith, w.stages)), get_or-set_other (slice_index_or cut s []) b c n 0 f.1) (w.lengths s c)
    lengths_at t c (inr e) f = rw (get_or-set_other cut s t (slice_set (slice_index_or cut s []) b n) [] e.1) (w.lengths t c)
