-- Fronts are within the logs of the history, through both layers.
use Rattle.std.proofs.Common.{◌≡◌, ℕ, zero, suc, ◌<◌, ◌≤◌, List, [], ◌∷◌, map, length, take, slice_get, slice_index_or, Option, Some, None, refl, ap, sym, ◌∙◌, subst, arith}
use Rattle.row.specs.Bags.{Each}
use Rattle.plan.specs.Layouts.{SideLayout, Layout}
use Rattle.plan.specs.Profile.{IsPlan}
use Rattle.plan.proofs.Facts.{facts}
use Rattle.plan.specs.Facts.{IsSide, IfThere}
use Rattle.model.specs.Logs.{Change}
use Rattle.model.specs.Places.{base_at, base_count, side_count, side_bases, right_bases, sources, source_at}
use Rattle.model.specs.Queries.{Line}
use Rattle.model.specs.Histories.{Item, len_at, log_of}
use Rattle.std.proofs.Math.Seq.{take-append_seam}
use Rattle.model.specs.Cuts.{line_of, fronts_of, IsWithin}
use Rattle.model.proofs.PlaceLaws.{base_range}
use mathlib.Core.List.{IsPrefix}
use Rattle.packet.specs.Truth.{Pointwise, Grows}
use Rattle.protocol.proofs.Leading.{IsRun, IsBaseRun}
use Rattle.protocol.specs.Bases.{Base}
use Rattle.protocol.specs.Stages.{Stage}
use Rattle.protocol.specs.Views.{View}
use Rattle.protocol.specs.Worlds.{Node, World}
use Rattle.protocol.specs.WorldSteps.{lengths_of}
use Rattle.protocol.proofs.Wired.{Wired, entries_at, entries_in, source_logs, lines_of, IsLogOf}
use Rattle.protocol.proofs.Lists.{each_at, pair_size}
use Rattle.protocol.proofs.EdgeLaws.{edges_before}
use Rattle.packet.proofs.Joins.{grows_chains}
use Rattle.protocol.proofs.Parts.{base_runs, stage_runs}
use Rattle.protocol.proofs.Spots.{each_range, at_start}
use Rattle.protocol.proofs.Moves.{line_len}
use Rattle.std.proofs.lemmas.List.{length-map}
use Rattle.plan.proofs.OwnTexts.{each_join}

-- ---- sources are base shards of the plan
pub sources_small : (p : Layout) → IsPlan p → Each (λ b. b < base_count p) (sources p)
sources_small p g = each_join (λ b. b < base_count p) (side_bases p p.left) (right_bases p p.right)
    (each_range (λ b. b < base_count p) (base_at p p.left.table 0) (side_count p p.left) (λ k lt. subst (λ b. b < base_count p) (sym (at_start p p.left.table k)) (base_range p p.left.table k (facts p g).left.table lt))) (by p.right refl)
  where
    by : (right : Option SideLayout) → p.right ≡ right → Each (λ b. b < base_count p) (right_bases p right)
    by None e = tt
    by (Some side) e =
        let r : IsSide p side = subst (λ (o : Option SideLayout). IfThere o (IsSide p)) e (facts p g).right in
        each_range (λ b. b < base_count p) (base_at p side.table 0) (side_count p side) (λ k lt. subst (λ b. b < base_count p) (sym (at_start p side.table k)) (base_range p side.table k r.table lt))

pub there : {X : Type 0} (xs : List X) (i : ℕ) → i < length xs → (x : X) × (slice_get xs i ≡ Some x)
there [] i lt = absurd (omega arith)
there (x ∷ xs) zero lt = (x, refl)
there (x ∷ xs) (suc i) lt = there xs i (omega arith)

pub not_past : {X : Type 0} (xs : List X) (i : ℕ) (x : X) → slice_get xs i ≡ Some x → i < length xs
not_past [] i x at = cc
not_past (y ∷ xs) zero x at = omega arith
not_past (y ∷ xs) (suc i) x at = let r = not_past xs i x at in omega arith

-- the logs of the sources
abbrev pub logs_of : Layout → List Item → List (List Change)
logs_of p h = map (λ b. log_of b h) (sources p)

logs_same : (bases : List (Node Base)) (h : List Item) → ((b : ℕ) (n : Node Base) → slice_get bases b ≡ Some n → IsLogOf h b n) → (xs : List ℕ) → Each (λ b. b < length bases) xs → map (entries_at bases) xs ≡ map (λ b. log_of b h) xs
logs_same bases h logs [] e = refl
logs_same bases h logs (b ∷ xs) e =
    let n = there bases b e.0 in
    let a : entries_at bases b ≡ log_of b h = ap entries_in n.1 ∙ sym (logs b n.0 n.1).log in
    let r = logs_same bases h logs xs e.1 in cc

pub source_logs_same : (w : World) (h : List Item) → Wired w → ((b : ℕ) (n : Node Base) → slice_get w.bases b ≡ Some n → IsLogOf h b n) → source_logs w.plan w.bases ≡ logs_of w.plan h
source_logs_same w h g logs = logs_same w.bases h logs (sources w.plan) (subst (λ n. Each (λ b. b < n) (sources w.plan)) (sym g.counted) (sources_small w.plan g.good))

-- ---- a view shard's lines
lines_within : (cut : List Line) (stages : List (Node Stage)) (logs : List (List Change)) → Pointwise Grows cut (lines_of stages) → Each (λ (n : Node Stage). Grows n.is.line logs) stages → Each (λ l. Grows l logs) cut
lines_within [] stages logs g h = tt
lines_within (l ∷ cut) [] logs g h = absurd g
lines_within (l ∷ cut) (n ∷ stages) logs g h = (grows_chains l n.is.line logs g.0 h.0, lines_within cut stages logs g.1 h.1)

-- the cut has a line for each stage shard, and each is a beginning of the logs
pub record IsCut (p : Layout) (h : List Item) (cut : List Line) : Type 0 where
  pub size : length cut ≡ p.stages
  pub lines : Each (λ l. Grows l (logs_of p h)) cut

pub cut_of : (w : World) (h : List Item) (r : ℕ) (n : Node View) → Wired w → ((b : ℕ) (n : Node Base) → slice_get w.bases b ≡ Some n → IsLogOf h b n) → slice_get w.views r ≡ Some n → IsCut w.plan h n.is.cut
cut_of w h r n g logs at =
    let before = each_at (λ (n : Node View). Pointwise Grows n.is.cut (lines_of w.stages)) w.views r n at (edges_before IsRun Grows stage_runs (λ (v : View). v.cut) w.views w.to_view (lines_of w.stages) g.cuts) in
    record {
      size = pair_size Grows n.is.cut (lines_of w.stages) before ∙ (length-map w.stages (λ (n : Node Stage). n.is.line) ∙ g.staged);
      lines = lines_within n.is.cut w.stages (logs_of w.plan h) before
          (subst (λ ls. Each (λ (n : Node Stage). Grows n.is.line ls) w.stages) (source_logs_same w h g logs) (edges_before IsBaseRun IsPrefix base_runs (λ (s : Stage). s.line) w.stages w.to_stage (source_logs w.plan w.bases) g.lines));
    }

-- ---- the cut by its lengths
len_log : (h : List Item) (xs : List ℕ) (j : ℕ) → slice_index_or (map length (map (λ b. log_of b h) xs)) j 0 ≤ length (log_of (slice_index_or xs j 0) h)
len_log h [] j = omega arith
len_log h (b ∷ xs) zero = omega arith
len_log h (b ∷ xs) (suc j) = len_log h xs j

lengths_small : (p : Layout) (h : List Item) (cut : List Line) → Each (λ l. Grows l (logs_of p h)) cut → (s j : ℕ) → len_at (lengths_of cut) s j ≤ length (log_of (source_at p j) h)
lengths_small p h [] e s j = omega arith
lengths_small p h (l ∷ cut) e zero j = let a = line_len l (logs_of p h) e.0 j in let b = len_log h (sources p) j in omega arith
lengths_small p h (l ∷ cut) e (suc s) j = lengths_small p h cut e.1 s j

line_size : (p : Layout) (h : List Item) (cut : List Line) → Each (λ l. Grows l (logs_of p h)) cut → (s : ℕ) → s < length cut → length (slice_index_or (lengths_of cut) s []) ≡ length (sources p)
line_size p h [] e s lt = absurd (omega arith)
line_size p h (l ∷ cut) e zero lt = length-map l length ∙ (pair_size IsPrefix l (logs_of p h) e.0 ∙ length-map (sources p) (λ b. log_of b h))
line_size p h (l ∷ cut) e (suc s) lt = line_size p h cut e.1 s (omega arith)

pub cut_within : (p : Layout) (h : List Item) (cut : List Line) → IsCut p h cut → IsWithin p h (lengths_of cut)
cut_within p h cut c = record {
  stages = length-map cut (λ line. map length line) ∙ c.size;
  lines = λ s lt. line_size p h cut c.lines s (subst (λ n. s < n) (sym c.size) lt);
  lengths = lengths_small p h cut c.lines;
}

-- what begins a list is its first part
pub prefix_take : {X : Type 0} (xs ys : List X) → IsPrefix xs ys → take (length xs) ys ≡ xs
prefix_take xs ys p = ap (take (length xs)) (sym p.1) ∙ take-append_seam xs p.0

line_fronts : (h : List Item) (xs : List ℕ) (l : Line) → Grows l (map (λ b. log_of b h) xs) → line_of h xs (map length l) ≡ l
line_fronts h [] [] g = refl
line_fronts h [] (f ∷ l) g = absurd g
line_fronts h (b ∷ xs) [] g = absurd g
line_fronts h (b ∷ xs) (f ∷ l) g = let a : take (length f) (log_of b h) ≡ f = prefix_take f (log_of b h) g.0 in let r = line_fronts h xs l g.1 in cc

-- its fronts are those that its lengths name
pub cut_fronts : (p : Layout) (h : List Item) (cut : List Line) → Each (λ l. Grows l (logs_of p h)) cut → fronts_of p h (lengths_of cut) ≡ cut
cut_fronts p h [] e = refl
cut_fronts p h (l ∷ cut) e = let a = line_fronts h (sources p) l e.0 in let r = cut_fronts p h cut e.1 in cc
