-- In a legal history each entry of each log fits its table, so the fronts of a cut are lines of the plan.
use Rattle.std.proofs.Common.{◌≡◌, ℕ, zero, suc, ◌<◌, Bool, true, List, [], ◌∷◌, ◌++◌, take, drop, length, get_or, refl, arith, ap, sym, subst, ◌∙◌, Option, Some, None}
use Rattle.std.specs.List.{list_all}
use Rattle.std.proofs.lemmas.List.FromFn.{length-range_with_len, get_or-range_with_len}
use Rattle.row.specs.Bags.{Each}
use Rattle.plan.specs.Layouts.{TableLayout, SideLayout, Layout, table_at}
use Rattle.plan.specs.Facts.{IfThere, IsSide, Facts}
use Rattle.model.specs.Logs.{fits}
use Rattle.model.specs.Places.{base_at, side_count, side_bases, right_bases, sources}
use Rattle.model.specs.Queries.{Line}
use Rattle.model.specs.Histories.{Item, Lengths, log_of}
use Rattle.model.specs.Cuts.{line_of, fronts_of}
use Rattle.model.specs.Legal.{IsLegal}
use Rattle.model.proofs.LegalLogs.{all_take, legal_fits}
use Rattle.model.proofs.PlaceLaws.{base_layout}
use Rattle.plain.specs.Fitting.{all_fit, right_fit, is_line}
use Rattle.plan.proofs.Both.{and_both}
use Rattle.model.proofs.Lists.{each_of}

-- each entry of the base shard's log fits the table
abbrev pub fits_log : TableLayout → List Item → ℕ → Bool
fits_log t h b = list_all (fits t) (log_of b h)

line_fits : (t : TableLayout) (h : List Item) (bs ns : List ℕ) → Each (λ b. fits_log t h b ≡ true) bs → all_fit t (line_of h bs ns) ≡ true
line_fits t h [] ns each = refl
line_fits t h (b ∷ bs) [] each = refl
line_fits t h (b ∷ bs) (n ∷ ns) each = and_both (list_all (fits t) (take n (log_of b h))) (all_fit t (line_of h bs ns)) (all_take (fits t) n (log_of b h) each.0) (line_fits t h bs ns each.1)

take_line : (h : List Item) (xs ys ns : List ℕ) (k : ℕ) → k ≡ length xs → take k (line_of h (xs ++ ys) ns) ≡ line_of h xs ns
take_line h [] ys ns zero is = refl
take_line h [] ys ns (suc k) is = absurd (omega arith)
take_line h (x ∷ xs) ys ns zero is = absurd (omega arith)
take_line h (x ∷ xs) ys [] (suc k) is = refl
take_line h (x ∷ xs) ys (n ∷ ns) (suc k) is = ap (λ t. take n (log_of x h) ∷ t) (take_line h xs ys ns k (omega arith))

drop_none : (h : List Item) (ys : List ℕ) → line_of h ys [] ≡ []
drop_none h [] = refl
drop_none h (y ∷ ys) = refl

drop_line : (h : List Item) (xs ys ns : List ℕ) (k : ℕ) → k ≡ length xs → drop k (line_of h (xs ++ ys) ns) ≡ line_of h ys (drop k ns)
drop_line h [] ys ns zero is = refl
drop_line h [] ys ns (suc k) is = absurd (omega arith)
drop_line h (x ∷ xs) ys ns zero is = absurd (omega arith)
drop_line h (x ∷ xs) ys [] (suc k) is = sym (drop_none h ys)
drop_line h (x ∷ xs) ys (n ∷ ns) (suc k) is = drop_line h xs ys ns k (omega arith)

module _ (p : Layout) (n : ℕ) (h : List Item) (plan : Facts p) (legal : IsLegal p n h) where
  side_fits : (side : SideLayout) → side.table < length p.tables → Each (λ b. fits_log (table_at p side.table) h b ≡ true) (side_bases p side)
  side_fits side lt = each_of (λ b. fits_log (table_at p side.table) h b ≡ true) 0 (side_bases p side) (λ i li.
      let small : i < side_count p side = omega (arith, length-range_with_len (base_at p side.table 0) (side_count p side), li) in
      let at : get_or (side_bases p side) i 0 ≡ base_at p side.table i = get_or-range_with_len (base_at p side.table 0) (side_count p side) i 0 small ∙ omega arith in
      let fit = legal_fits p n (base_at p side.table i) [] h legal in
      let own = subst (λ (t : TableLayout). fits_log t h (base_at p side.table i) ≡ true) (base_layout p side.table i lt small) fit in
      subst (λ (b : ℕ). fits_log (table_at p side.table) h b ≡ true) (sym at) own)

  right_fits : (o : Option SideLayout) (ns : List ℕ) → IfThere o (IsSide p) → right_fit p o (line_of h (right_bases p o) ns) ≡ true
  right_fits None ns there = refl
  right_fits (Some side) ns there = line_fits (table_at p side.table) h (side_bases p side) ns (side_fits side there.table)

  line_is : (ns : List ℕ) → is_line p (line_of h (sources p) ns) ≡ true
  line_is ns =
      let k = side_count p p.left in
      let width : k ≡ length (side_bases p p.left) = sym (length-range_with_len (base_at p p.left.table 0) k) in
      let line = line_of h (sources p) ns in
      and_both (all_fit (table_at p p.left.table) (take k line)) (right_fit p p.right (drop k line))
      (subst (λ (l : Line). all_fit (table_at p p.left.table) l ≡ true) (sym (take_line h (side_bases p p.left) (right_bases p p.right) ns k width)) (line_fits (table_at p p.left.table) h (side_bases p p.left) ns (side_fits p.left plan.left.table)))
      (subst (λ (l : Line). right_fit p p.right l ≡ true) (sym (drop_line h (side_bases p p.left) (right_bases p p.right) ns k width)) (right_fits p.right (drop k ns) plan.right))

  pub lines_are : (cut : Lengths) → list_all (is_line p) (fronts_of p h cut) ≡ true
  lines_are [] = refl
  lines_are (ns ∷ cut) = and_both (is_line p (line_of h (sources p) ns)) (list_all (is_line p) (fronts_of p h cut)) (line_is ns) (lines_are cut)
