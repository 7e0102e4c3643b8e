-- The parts of the first stage shards, and of all of them in order.
use Rattle.std.proofs.Common.{◌≡◌, ℕ, zero, suc, ◌+◌, ◌<◌, ◌≤◌, List, [], ◌∷◌, ◌++◌, length, take, get_or, IsPermutation, refl, ap, sym, ◌∙◌, arith, append-nil, append_assoc}
use Rattle.std.proofs.lemmas.List.{take_more, take_all}
use Rattle.std.specs.List.Sorted.{IsSorted}
use Rattle.row.specs.Cells.{Cells, Datum, row_cmp}
use Rattle.row.specs.CellOrder.{row_total, row_same}
use Rattle.row.specs.Bags.{joined, sorted}
use Rattle.row.proofs.BagLaws.{sort_is}
use Rattle.plan.specs.Layouts.{Layout}
use Rattle.model.specs.Queries.{Line, part, parts, answer}

parts_push : (p : Layout) (s : ℕ) (fs : List Line) (f : Line) (i : ℕ) (k : Datum) → joined (parts p s (fs ++ f ∷ []) i k) ≡ joined (parts p s fs i k) ++ part p (s + length fs) f i k
parts_push p s [] f i k = let e : s + 0 ≡ s = omega arith in rw (e) (append-nil (part p s f i k))
parts_push p s (g ∷ fs) f i k =
    let e : s + suc (length fs) ≡ (s + 1) + length fs = omega arith in
    rw (e, parts_push p (s + 1) fs f i k) (sym (append_assoc (part p s g i k) (joined (parts p (s + 1) fs i k)) (part p ((s + 1) + length fs) f i k)))

length_take : {X : Type 0} (n : ℕ) (xs : List X) → n ≤ length xs → length (take n xs) ≡ n
length_take zero xs h = refl
length_take (suc n) [] h = absurd (omega arith)
length_take (suc n) (x ∷ xs) h = ap suc (length_take n xs (omega arith))

-- the part of the next stage shard goes to the end
pub parts_more : (p : Layout) (fs : List Line) (s : ℕ) (f : Line) (i : ℕ) (k : Datum) (rows share : List Cells) → s < length fs → f ≡ get_or fs s f → share ≡ part p s f i k
    → rows ≡ joined (parts p 0 (take s fs) i k) → rows ++ share ≡ joined (parts p 0 (take (s + 1) fs) i k)
parts_more p fs s f i k rows share lt is own before =
    let e : 0 + length (take s fs) ≡ s = omega (arith, length_take s fs (omega arith)) in
    rw (take_more fs s f lt, ← is, parts_push p 0 (take s fs) f i k, e, before, own) refl

-- the parts of all of them in order are the answer
pub answer_whole : (p : Layout) (fs : List Line) (s i : ℕ) (k : Datum) (rows after : List Cells) → length fs ≤ s → rows ≡ joined (parts p 0 (take s fs) i k)
    → IsPermutation rows after → IsSorted row_cmp after → after ≡ answer p fs i k
answer_whole p fs s i k rows after done before moved up =
    sort_is row_cmp row_total row_same rows after moved up ∙ ap (sorted row_cmp) (before ∙ ap (λ t. joined (parts p 0 t i k)) (take_all s fs done))
