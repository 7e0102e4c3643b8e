-- Cuts of no entries.
use Rattle.std.proofs.Common.{ℕ, zero, suc, ◌≤◌, List, [], length, replicate, slice_index_or, ap, sym, ◌∙◌, subst, arith}
use Rattle.std.proofs.lemmas.List.{length-map, length-replicate}
use Rattle.plan.specs.Layouts.{ViewLayout, Layout, no_view, view_at}
use Rattle.model.specs.Histories.{Item, Lengths, len_at}
use Rattle.model.specs.Places.{sources}
use Rattle.model.specs.Cuts.{IsWithin}
use Rattle.model.specs.Tables.{even_floors}
use Rattle.model.proofs.CutLaws.{row_at, same_in}
use Rattle.book.specs.Sessions.{AreWithin}

at_most_line : (line : List ℕ) (n s j : ℕ) → len_at (replicate n line) s j ≤ slice_index_or line j 0
at_most_line line zero s j = omega arith
at_most_line line (suc n) zero j = omega arith
at_most_line line (suc n) (suc s) j = at_most_line line n s j

zero_at : (n j : ℕ) → slice_index_or (replicate n 0) j 0 ≤ 0
zero_at zero j = omega arith
zero_at (suc n) zero = omega arith
zero_at (suc n) (suc j) = zero_at n j

pub zero_within : (p : Layout) (h : List Item) → IsWithin p h (replicate p.stages (replicate (length (sources p)) 0))
zero_within p h =
    let n = length (sources p) in
    let line : List ℕ = replicate n 0 in
    record {
      stages = length-replicate p.stages line;
      lines = λ s lt. ap length (same_in line [] p.stages s lt) ∙ length-replicate n 0;
      lengths = λ s j. omega (arith, zero_at n j, at_most_line line p.stages s j);
    }

pub zeros_within : (p : Layout) (h : List Item) → AreWithin p (record { floors = even_floors p (replicate (length (sources p)) 0); seen = h })
zeros_within p h =
    let cut : Lengths = replicate p.stages (replicate (length (sources p)) 0) in
    let F = λ (v : ViewLayout). replicate v.shards cut in
    record {
      table = record {
        views = length-map p.views F;
        shards = λ v lt. ap length (row_at F p.views v no_view lt) ∙ length-replicate ((view_at p v).shards) cut;
      };
      within = λ v j lv lj. subst (λ (c : Lengths). IsWithin p h c) (sym (ap (λ (r : List Lengths). slice_index_or r j []) (row_at F p.views v no_view lv) ∙ same_in cut [] ((view_at p v).shards) j lj)) (zero_within p h);
    }
