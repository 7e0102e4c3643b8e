-- The rows of a part with a value in a column, found one by one.
use Rattle.std.proofs.Common.{◌≡◌, ℕ, Bool, true, false, cond, List, [], ◌∷◌, ◌++◌, filter, IsPermutation, refl, ap, sym, ◌∙◌}
use Rattle.std.specs.List.Sorted.{IsSorted}
use Rattle.std.proofs.lemmas.List.{append_assoc, append-nil}
use Rattle.row.specs.Cells.{Datum, Cells, has, row_cmp}
use Rattle.row.specs.CellOrder.{row_total, row_same}
use Rattle.row.specs.Bags.{sorted}
use Rattle.row.proofs.Alike.{filter_alike, sorted_alike}
use Rattle.row.proofs.BagLaws.{sort_is}
use Rattle.base.specs.declared.part.Part.{Part}
use Rattle.base.specs.Parts.{is_in, found}
use Rattle.base.proofs.Orders.{sorted_self}

module _ (column : ℕ) (value : Datum) (part : Part) where
  -- the rows that are found, in the order in which they are looked at
  abbrev pub wanted : List Cells → List Cells
  wanted rows = filter (has column value) (filter (is_in part) rows)

  -- a row that is found
  pub finds : (x : Cells) (rest all now new : List Cells) → is_in part x ≡ true → has column value x ≡ true → now ++ wanted (x ∷ rest) ≡ all → new ≡ now ++ x ∷ [] → new ++ wanted rest ≡ all
  finds x rest all now new h k before is = ap (λ t. t ++ wanted rest) is ∙ (append_assoc now (x ∷ []) (wanted rest) ∙ (ap (λ t. now ++ t) (sym one) ∙ before))
    where
      one : wanted (x ∷ rest) ≡ x ∷ wanted rest
      one = rw (h) (rw (k) refl)

  -- a row of another part, or without the value
  pub passes_part : (x : Cells) (rest : List Cells) → is_in part x ≡ false → wanted (x ∷ rest) ≡ wanted rest
  passes_part x rest h = rw (h) refl

  pub passes_value : (x : Cells) (rest : List Cells) → has column value x ≡ false → wanted (x ∷ rest) ≡ wanted rest
  passes_value x rest h = step (is_in part x) refl
    where
      step : (b : Bool) → is_in part x ≡ b → filter (has column value) (cond b (x ∷ filter (is_in part) rest) (filter (is_in part) rest)) ≡ wanted rest
      step true e = rw (h) refl
      step false e = refl

  -- the order of the rows decides nothing
  pub found_sorted : (rows : List Cells) → found column value part (sorted row_cmp rows) ≡ found column value part rows
  found_sorted rows =
      sorted_alike row_cmp row_total row_same _ _ (filter_alike row_cmp row_total row_same (has column value) _ _ (filter_alike row_cmp row_total row_same (is_in part) _ _ (sorted_self row_cmp rows)))

  -- all that were found, in order
  pub found_all : (rows now after : List Cells) → now ++ wanted [] ≡ wanted rows → IsPermutation now after → IsSorted row_cmp after → after ≡ found column value part (sorted row_cmp rows)
  found_all rows now after is moved up =
      sort_is row_cmp row_total row_same now after moved up ∙ (ap (sorted row_cmp) (sym (append-nil now) ∙ is) ∙ sym (found_sorted rows))
