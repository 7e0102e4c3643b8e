-- The left rows over a line are rows of the left table.
use Rattle.std.proofs.Common.{◌≡◌, ℕ, zero, suc, ◌<◌, Bool, true, List, [], ◌∷◌, length, take, Some, slice_get, refl, ap, sym, ◌∙◌, subst, arith}
use Rattle.std.specs.List.{list_all}
use Rattle.row.specs.Bags.{Each, sorted}
use Rattle.row.specs.Cells.{Cells, has_shard, row_cmp}
use Rattle.row.proofs.BagLemmas.{Each-inserted, Each-weaker}
use Rattle.plan.specs.Facts.{Facts}
use Rattle.plan.specs.Kinds.{is_row}
use Rattle.plan.specs.Layouts.{Layout, table_at}
use Rattle.plan.specs.Outputs.{pass}
use Rattle.plan.proofs.Both.{and_both, and_left, and_right}
use Rattle.plan.proofs.RowCells.{row_length}
use Rattle.model.specs.Logs.{Change, fits, rows_of}
use Rattle.model.specs.Places.{base_at, layout_of, right_bases, side_count, source_at, sources, table_of}
use Rattle.model.specs.Queries.{Line, left, side_share, stage_rows}
use Rattle.model.proofs.PlaceLaws.{base_table}
use Rattle.model.proofs.RowFits.{all_filter, all_flat, rows_fit}
use Rattle.packet.specs.Truth.{IsLine}
use Rattle.protocol.proofs.Spots.{at_start}
use Rattle.stage_steps.proofs.Fronts.{all_of, front_at, get_first, take_get}

-- a test that each element passes that is found passes
all_got : {X : Type 0} (p : X → Bool) (xs : List X) → ((j : ℕ) (x : X) → slice_get xs j ≡ Some x → p x ≡ true) → list_all p xs ≡ true
all_got p [] h = refl
all_got p (x ∷ xs) h = and_both (p x) (list_all p xs) (h 0 x refl) (all_got p xs (λ j y e. h (suc j) y e))

got_small : {X : Type 0} (n j : ℕ) (xs : List X) (x : X) → slice_get (take n xs) j ≡ Some x → j < n
got_small zero j xs x e = absurd cc
got_small (suc n) j [] x e = absurd cc
got_small (suc n) zero (y ∷ xs) x e = omega arith
got_small (suc n) (suc j) (y ∷ xs) x e = let r = got_small n j xs x e in omega (arith, r)

pub each_of : {X : Type 0} (p : X → Bool) (xs : List X) → list_all p xs ≡ true → Each (λ x. p x ≡ true) xs
each_of p [] h = tt
each_of p (x ∷ xs) h = (and_left (p x) (list_all p xs) h, each_of p xs (and_right (p x) (list_all p xs) h))

module _ (p : Layout) (s : ℕ) (line : Line) (facts : Facts p) (is : IsLine p line) where
  -- a front of a left source fits the left table
  front_fits : (j : ℕ) (front : List Change) → slice_get (take (side_count p p.left) line) j ≡ Some front → list_all (fits (table_at p p.left.table)) front ≡ true
  front_fits j front at =
      let lt = got_small (side_count p p.left) j line front at in
      let place : source_at p j ≡ base_at p p.left.table j = get_first (base_at p p.left.table 0) (side_count p p.left) j (right_bases p p.right) lt ∙ at_start p p.left.table j in
      let table : layout_of p (source_at p j) ≡ table_at p p.left.table = ap (table_at p) (ap (table_of p) place ∙ base_table p p.left.table j facts.left.table lt) in
      let f = front_at p (sources p) line j front is (sym (take_get (side_count p p.left) j line lt) ∙ at) in
      rw table at (all_of (fits (layout_of p (source_at p j))) front f.fitting)

  pub left_are_rows : Each (λ l. is_row (table_at p p.left.table).columns l ≡ true) (left p s line)
  left_are_rows =
      let t = table_at p p.left.table in
      each_of (is_row t.columns) (left p s line)
      (all_flat (is_row t.columns) (λ (front : List Change). list_all (fits t) front) (side_share p s p.left)
      (λ front h. all_filter (is_row t.columns) (pass p.left.conditions) (stage_rows p s p.left front) (all_filter (is_row t.columns) (has_shard p.left.key p.stages s) (rows_of t.key front) (rows_fit t t.key front h)))
      (take (side_count p p.left) line) (all_got (λ (front : List Change). list_all (fits t) front) (take (side_count p p.left) line) front_fits))

pub each_sorted : (P : Cells → Type 0) (xs : List Cells) → Each P xs → Each P (sorted row_cmp xs)
each_sorted P [] h = tt
each_sorted P (x ∷ xs) h = Each-inserted row_cmp P x (sorted row_cmp xs) h.0 (each_sorted P xs h.1)

-- so are those in order
pub sorted_are_rows : (p : Layout) (s : ℕ) (line : Line) (lefts : List Cells) → Facts p → IsLine p line → lefts ≡ sorted row_cmp (left p s line) → Each (λ l. is_row (table_at p p.left.table).columns l ≡ true) lefts
sorted_are_rows p s line lefts facts is e =
    subst (Each (λ l. is_row (table_at p p.left.table).columns l ≡ true)) (sym e) (each_sorted (λ l. is_row (table_at p p.left.table).columns l ≡ true) (left p s line) (left_are_rows p s line facts is))

-- as wide as the table
pub rows_wide : (p : Layout) (c : ℕ) (rows : List Cells) → c < length (table_at p p.left.table).columns → Each (λ l. is_row (table_at p p.left.table).columns l ≡ true) rows → Each (λ l. c < length l) rows
rows_wide p c rows lt h = Each-weaker (λ l. is_row (table_at p p.left.table).columns l ≡ true) (λ l. c < length l) (λ l e. let n = row_length (table_at p p.left.table).columns l e in omega (arith, lt, n)) rows h
