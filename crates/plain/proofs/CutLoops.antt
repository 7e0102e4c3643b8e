-- Cuts line by line, and lines length by length.
use Rattle.std.proofs.Common.{◌≡◌, ℕ, zero, suc, ◌+◌, ◌<◌, ◌≤◌, List, [], ◌∷◌, ◌++◌, length, take, min, get_or, refl, arith, ap, sym, ◌∙◌, inl, inr, add-one}
use Rattle.std.proofs.lemmas.List.{take_more}
use Rattle.row.specs.Bags.{Each}
use Rattle.plan.specs.Layouts.{Layout}
use Rattle.model.specs.Places.{sources}
use Rattle.model.specs.Logs.{Change}
use Rattle.model.specs.Queries.{Line}
use Rattle.model.specs.Histories.{Item, Lengths, len_at, log_of}
use Rattle.model.specs.Cuts.{line_of, fronts_of, IsWithin}
use Rattle.plain.specs.Tells.{IsLineWithin}
use Rattle.model.proofs.Lists.{each_of, past_end, any_end, below_or_not}

-- ---- a property of each length, with 0 past the end
pub every_length : (line : List ℕ) (f : ℕ → ℕ) → ((j : ℕ) → j < length line → get_or line j 0 ≤ f j) → (j : ℕ) → get_or line j 0 ≤ f j
every_length line f h j = elim (below_or_not j (length line)) as (λ _. get_or line j 0 ≤ f j) [ inl lt ↦ h j lt | inr le ↦ omega (arith, past_end line j 0 le) ]

pub lines_within : (p : Layout) (h : List Item) (cut : Lengths) → IsWithin p h cut → Each (IsLineWithin p h) cut
lines_within p h cut w = each_of (IsLineWithin p h) [] cut (λ s lt. record { width = w.lines s (let e = w.stages in omega arith); lengths = λ j. w.lengths s j })

-- ---- one cut and another

pub line_len : (c : Lengths) (s : ℕ) (line : List ℕ) → s < length c → line ≡ get_or c s line → (j : ℕ) → len_at c s j ≡ get_or line j 0
line_len c s line lt is j = ap (λ (l : List ℕ). get_or l j 0) (any_end c s [] line lt ∙ sym is)

-- ---- fronts
line_at : (h : List Item) (bs ns : List ℕ) (i b n : ℕ) → i < length bs → i < length ns → b ≡ get_or bs i 0 → n ≡ get_or ns i 0
    → line_of h (take i bs) (take i ns) ++ take n (log_of b h) ∷ [] ≡ line_of h (take (suc i) bs) (take (suc i) ns)
line_at h [] ns i b n lb ln is at = absurd (omega arith)
line_at h (x ∷ bs) [] i b n lb ln is at = absurd (omega arith)
line_at h (x ∷ bs) (y ∷ ns) zero b n lb ln is at = rw (is, at) refl
line_at h (x ∷ bs) (y ∷ ns) (suc i) b n lb ln is at = ap (λ t. take y (log_of x h) ∷ t) (line_at h bs ns i b n (omega arith) (omega arith) is at)

-- the front of the next source goes to the end
pub line_more : (h : List Item) (bs ns : List ℕ) (i b n : ℕ) (out : Line) (f : List Change) → i < length bs → i < length ns → b ≡ get_or bs i 0 → n ≡ get_or ns i 0 → f ≡ take n (log_of b h)
    → out ≡ line_of h (take i bs) (take i ns) → out ++ f ∷ [] ≡ line_of h (take (i + 1) bs) (take (i + 1) ns)
line_more h bs ns i b n out f lb ln is at own before = rw (add-one i, before, own) (line_at h bs ns i b n lb ln is at)

-- as far as both lists go
pub line_whole : (h : List Item) (bs ns : List ℕ) (i : ℕ) → min (length bs) (length ns) ≤ i → line_of h (take i bs) (take i ns) ≡ line_of h bs ns
line_whole h [] ns zero le = refl
line_whole h [] ns (suc i) le = refl
line_whole h (x ∷ bs) [] zero le = refl
line_whole h (x ∷ bs) [] (suc i) le = refl
line_whole h (x ∷ bs) (y ∷ ns) zero le = absurd (omega arith)
line_whole h (x ∷ bs) (y ∷ ns) (suc i) le = ap (λ t. take y (log_of x h) ∷ t) (line_whole h bs ns i (omega arith))

fronts_push : (p : Layout) (h : List Item) (cut : Lengths) (line : List ℕ) → fronts_of p h (cut ++ line ∷ []) ≡ fronts_of p h cut ++ line_of h (sources p) line ∷ []
fronts_push p h [] line = refl
fronts_push p h (l ∷ cut) line = ap (λ t. line_of h (sources p) l ∷ t) (fronts_push p h cut line)

-- the next line goes to the end
pub fronts_more : (p : Layout) (h : List Item) (cut : Lengths) (i : ℕ) (line : List ℕ) (out : List Line) (f : Line) → i < length cut → line ≡ get_or cut i line → f ≡ line_of h (sources p) line
    → out ≡ fronts_of p h (take i cut) → out ++ f ∷ [] ≡ fronts_of p h (take (i + 1) cut)
fronts_more p h cut i line out f lt is own before = rw (take_more cut i line lt, ← is, fronts_push p h (take i cut) line, before, own) refl
