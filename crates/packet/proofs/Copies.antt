-- Copies of one thing, and lines and cuts of empty logs.
use Rattle.std.proofs.Common.{◌≡◌, ℕ, zero, suc, ◌+◌, List, [], ◌∷◌, ◌++◌, map, length, replicate, take, slice_get, slice_set, Some, refl, ap, sym, ◌∙◌, arith}
use Rattle.std.proofs.lemmas.List.{replicate_more}
use Rattle.row.specs.Bags.{Each}
use Rattle.plan.specs.Layouts.{Layout}
use Rattle.model.specs.Fronts.{LogView}
use Rattle.model.specs.Places.{sources}
use Rattle.packet.specs.Lines.{AreOf, IsOf, empty_log, empty_line}
use Rattle.packet.specs.Truth.{Pointwise}

-- ---- copies
pub replicate_size : {X : Type 0} (n : ℕ) (x : X) → length (replicate n x) ≡ n
replicate_size zero x = refl
replicate_size (suc n) x = ap suc (replicate_size n x)

pub map_replicate : {X Y : Type 0} (f : X → Y) (n : ℕ) (x : X) → map f (replicate n x) ≡ replicate n (f x)
map_replicate f zero x = refl
map_replicate f (suc n) x = ap (λ ys. f x ∷ ys) (map_replicate f n x)

-- one copy more
pub same_more : {X : Type 0} (n : ℕ) (x y : X) (was now : List X) → was ≡ replicate n x → y ≡ x → now ≡ was ++ y ∷ [] → now ≡ replicate (n + 1) x
same_more n x y was now before is put = put ∙ (ap (λ l. l ++ y ∷ []) before ∙ (ap (λ z. replicate n x ++ z ∷ []) is ∙ replicate_more n x))

copied_next : {X : Type 0} (now other : List X) (i : ℕ) (x : X) → take i now ≡ take i other → length now ≡ length other → slice_get other i ≡ Some x → take (suc i) (slice_set now i x) ≡ take (suc i) other
copied_next [] [] i x before size at = absurd cc
copied_next [] (o ∷ other) i x before size at = absurd (omega (arith, size))
copied_next (n ∷ now) [] i x before size at = absurd (omega (arith, size))
copied_next (n ∷ now) (o ∷ other) zero x before size at =
    let first : o ≡ x = cc in
    ap (λ y. y ∷ []) (sym first)
copied_next (n ∷ now) (o ∷ other) (suc i) x before size at =
    let first : n ≡ o = cc in
    let rest : take i now ≡ take i other = cc in
    rw (first, copied_next now other i x rest (omega (arith, size)) at) refl

-- one more of another list, in its place
pub copied_more : {X : Type 0} (now other : List X) (i : ℕ) (x : X) → take i now ≡ take i other → length now ≡ length other → slice_get other i ≡ Some x → take (i + 1) (slice_set now i x) ≡ take (i + 1) other
copied_more now other i x before size at =
    let next : i + 1 ≡ suc i = omega arith in
    rw next (copied_next now other i x before size at)

-- ---- empty logs
logs_of : (p : Layout) (bs : List ℕ) → Pointwise (IsOf p) bs (map (empty_log p) bs)
logs_of p [] = tt
logs_of p (b ∷ bs) = (record { plan = refl; base = refl }, logs_of p bs)

-- the line of empty logs is one of the plan
pub line_of : (p : Layout) → AreOf p (empty_line p)
line_of p = logs_of p (sources p)

none_in : (p : Layout) (bs : List ℕ) → Each (λ (l : LogView). l.entries ≡ []) (map (empty_log p) bs)
none_in p [] = tt
none_in p (b ∷ bs) = (refl, none_in p bs)

-- the line of empty logs has no entry
pub line_empty : (p : Layout) → Each (λ (l : LogView). l.entries ≡ []) (empty_line p)
line_empty p = none_in p (sources p)

-- each line of a cut of empty logs is one of the plan
pub cut_of : (p : Layout) (n : ℕ) → Each (AreOf p) (replicate n (empty_line p))
cut_of p zero = tt
cut_of p (suc n) = (line_of p, cut_of p n)

pub cut_size : (q : Layout) (cut : List (List LogView)) → cut ≡ replicate q.stages (empty_line q) → length cut ≡ q.stages
cut_size q cut is = ap length is ∙ replicate_size q.stages (empty_line q)

-- copies of the line of empty logs are a cut of them
pub cut_made : (p q : Layout) (n : ℕ) (line : List LogView) (cut : List (List LogView)) → q ≡ p → n ≡ q.stages → line ≡ empty_line p → cut ≡ replicate n line → cut ≡ replicate q.stages (empty_line q)
cut_made p q n line cut same size is made = made ∙ (ap (λ k. replicate k line) size ∙ ap (replicate q.stages) (is ∙ ap empty_line (sym same)))
