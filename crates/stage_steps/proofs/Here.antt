-- The right rows that are here, beside all right rows.
use Rattle.std.proofs.Common.{◌≡◌, ℕ, zero, suc, ◌<◌, Bool, true, false, cond, ◌&&◌, List, [], ◌∷◌, ◌++◌, map, flat_map, filter, length, Option, Some, None, IsSome, refl, ap, sym, ◌∙◌, subst, arith, true≢false}
use Rattle.std.specs.Map.{lookup}
use Rattle.std.specs.Global.{Global}
use Rattle.std.specs.Option.{option_map}
use Rattle.std.proofs.lemmas.List.Elements.{filter-append}
use Rattle.row.specs.Bags.{Each, IsAlike, joined, times}
use Rattle.row.specs.Cells.{Cells, Datum, int, text, cell_at, datum_of, has, row_cmp, same}
use Rattle.row.specs.declared.value.Value.{Value}
use Rattle.row.specs.declared.value.Value.TheVariants as code
use Rattle.row.proofs.BagLemmas.{times-append, times-sorted}
use Rattle.row.proofs.Filtered.{filter-kept_of}
use Rattle.plan.specs.Kinds.{is_cell, is_plain, is_row}
use Rattle.plan.specs.Layouts.{ColumnLayout, Layout, SideLayout}
use Rattle.plan.specs.Outputs.{output, partners, with_total}
use Rattle.plan.specs.declared.kinds.Aggregate.{Aggregate}
use Rattle.plan.specs.declared.kinds.Kind.{Kind}
use Rattle.plan.specs.declared.kinds.Kind.TheVariants as kind
use Rattle.plan.proofs.Both.{and_left, and_right, and_both}
use Rattle.model.specs.Queries.{Line, side_rows, side_share}
use Rattle.ops.specs.SideRows.{Rows, is_here, is_of}
use Rattle.packet.specs.Keys.{stand_of}
use Rattle.packet.specs.Truth.{right_shares}
use Rattle.partial.specs.States.{Filled, is_filled, state_from}
use Rattle.partial.specs.Sums.{sum_of_bags}
use Rattle.partial.specs.Truth.{IsTrueOf}
use Rattle.right_rows.specs.Rights.{keys_in, state_in}
use Rattle.stage_sides.specs.Sides.{IsNamed, is_known}
use Rattle.stage_sides.proofs.Exact.{AreHere, has_cell}
use Rattle.stage_steps.proofs.Fronts.{share_of}
use Rattle.stage_steps.proofs.Named.{cell_named}

-- ---- values of the program
abbrev pub can_name : Datum → Bool
can_name (int n) = true
can_name (text bytes) = is_plain bytes

cell_can : (k : Kind) (d : Datum) → is_cell k d ≡ true → can_name d ≡ true
cell_can k (int n) h = refl
cell_can kind.Int (text bytes) h = absurd cc
cell_can kind.Text (text bytes) h = h

named_of : Global → (d : Datum) → can_name d ≡ true → IsNamed d
named_of alloc (int n) h = record { value = code.Int n; is = refl }
named_of alloc (text bytes) h = cell_named alloc kind.Text (text bytes) h

-- the cell of a row of the table
pub row_can : (cs : List ColumnLayout) (row : Cells) (c : ℕ) → is_row cs row ≡ true → c < length cs → can_name (cell_at row c) ≡ true
row_can [] row c h lt = absurd (omega arith)
row_can (k ∷ cs) [] c h lt = absurd cc
row_can (k ∷ cs) (v ∷ row) zero h lt = cell_can k.kind v (and_left (is_cell k.kind v) (is_row cs row) h)
row_can (k ∷ cs) (v ∷ row) (suc c) h lt = row_can cs row c (and_right (is_cell k.kind v) (is_row cs row) h) (omega (arith, lt))

-- a key that is here, and is a value of the program
abbrev pub is_named_here : Option (List Datum) → Datum → Bool
is_named_here keys x = is_of keys x && can_name x

-- the rows of such keys
abbrev pub rows_named : Option (List Datum) → ℕ → List Cells → List Cells
rows_named keys c rows = filter (λ r. is_named_here keys (cell_at r c)) rows

-- ---- rows that pass a test
none_of : (q p : Cells → Bool) (rs : List Cells) → ((r : Cells) → q r ≡ true → p r ≡ false) → filter q (filter p rs) ≡ []
none_of q p [] h = refl
none_of q p (r ∷ rs) h = step (p r) refl (q r) refl (none_of q p rs h)
  where
    step : (a : Bool) → p r ≡ a → (b : Bool) → q r ≡ b → filter q (filter p rs) ≡ [] → filter q (cond a (r ∷ filter p rs) (filter p rs)) ≡ []
    step true e true f k = absurd (true≢false (sym e ∙ h r f))
    step true e false f k = rw f k
    step false e b f k = k

module _ (keys : Option (List Datum)) (c : ℕ) (rows : List Cells) (x : Datum) where
  named_same : is_named_here keys x ≡ true → filter (has c x) (rows_named keys c rows) ≡ filter (has c x) rows
  named_same h = filter-kept_of (has c x) (λ r. is_named_here keys (cell_at r c)) rows (λ r e. ap (is_named_here keys) (has_cell c x r e) ∙ h)

  named_none : is_named_here keys x ≡ false → filter (has c x) (rows_named keys c rows) ≡ []
  named_none h = none_of (has c x) (λ r. is_named_here keys (cell_at r c)) rows (λ r e. ap (is_named_here keys) (has_cell c x r e) ∙ h)

-- ---- what is kept at a key that is here
filled_from : (w : Option (List (Option (List Cells)))) (b : Bool) (xs : List Cells) → is_filled (stand_of (state_from w (cond b (Some xs) None))) ≡ true → state_from w (cond b (Some xs) None) ≡ Filled xs
filled_from (Some pieces) b xs h = absurd (true≢false (sym h))
filled_from None true xs h = refl
filled_from None false xs h = absurd (true≢false (sym h))

module _ (right : Rows) (some : IsSome right.keys) (known : (k : Datum) → is_here right k ≡ is_known k (keys_in right)) where
  stand_is : (x : Datum) → is_known x (keys_in right) ≡ is_filled (stand_of (state_in right x))
  stand_is x = by right.keys some
    where
      by : (ks : Option (List Datum)) → IsSome ks → is_known x (option_map (λ order. record { at = λ k. stand_of (state_in right k); order = order }) ks) ≡ is_filled (stand_of (state_in right x))
      by None h = absurd (true≢false (sym h))
      by (Some order) h = refl

  state_is : (x : Datum) → is_here right x ≡ true → state_in right x ≡ Filled (filter (has right.column x) right.rows)
  state_is x h = filled_from (lookup (same x) right.waiting) (is_here right x) (filter (has right.column x) right.rows) (sym (stand_is x) ∙ (sym (known x) ∙ h))

  module _ (alloc : Global) (p : Layout) (s : ℕ) (side : SideLayout) (fronts : Line) (column : right.column ≡ side.key) (truth : (k : Value) → IsTrueOf sum_of_bags (right_shares p s side (datum_of k) fronts) (state_in right (datum_of k))) where
    shares_are : (z : Cells) (d : Datum) (fs : Line) → times row_cmp z (joined (map (share_of p s side d) fs)) ≡ times row_cmp z (filter (has side.key d) (side_rows p s side fs))
    shares_are z d [] = refl
    shares_are z d (f ∷ fs) =
        omega (
          arith,
          shares_are z d fs,
          times-append row_cmp z (share_of p s side d f) (joined (map (share_of p s side d) fs)),
          times-sorted row_cmp z (filter (has side.key d) (side_share p s side f)),
          ap (times row_cmp z) (filter-append (has side.key d) (side_share p s side f) (side_rows p s side fs)),
          times-append row_cmp z (filter (has side.key d) (side_share p s side f)) (filter (has side.key d) (side_rows p s side fs)),
        )

    rows_at : (v : Value) → is_here right (datum_of v) ≡ true → IsAlike row_cmp (filter (has side.key (datum_of v)) right.rows) (filter (has side.key (datum_of v)) (side_rows p s side fronts))
    rows_at v h =
        let d = datum_of v in
        let is : filter (has right.column d) right.rows ≡ sum_of_bags (right_shares p s side d fronts) = subst (IsTrueOf sum_of_bags (right_shares p s side d fronts)) (state_is d h) (truth v) in
        let own : filter (has side.key d) right.rows ≡ sum_of_bags (right_shares p s side d fronts) = ap (λ c. filter (has c d) right.rows) (sym column) ∙ is in
        record { each = λ z. ap (times row_cmp z) own ∙ (times-sorted row_cmp z (joined (right_shares p s side d fronts)) ∙ shares_are z d fronts) }

    pub rows_named_at : (x : Datum) → is_named_here right.keys x ≡ true → IsAlike row_cmp (filter (has side.key x) right.rows) (filter (has side.key x) (side_rows p s side fronts))
    rows_named_at x h =
        let n = named_of alloc x (and_right (is_of right.keys x) (can_name x) h) in
        subst (λ d. is_of right.keys d ≡ true → IsAlike row_cmp (filter (has side.key d) right.rows) (filter (has side.key d) (side_rows p s side fronts))) n.is (rows_at n.value) (and_left (is_of right.keys x) (can_name x) h)

    pub are_here : AreHere side (is_named_here right.keys) (rows_named right.keys side.key right.rows) (side_rows p s side fronts)
    are_here = record {
      all = λ x h. subst (λ rs. IsAlike row_cmp rs (filter (has side.key x) (side_rows p s side fronts))) (sym (named_same right.keys side.key right.rows x h)) (rows_named_at x h);
      none = λ x h. named_none right.keys side.key right.rows x h;
    }

-- ---- the output over them
flat_same : (f g : Cells → List Cells) (ls : List Cells) → Each (λ l. f l ≡ g l) ls → flat_map f ls ≡ flat_map g ls
flat_same f g [] h = refl
flat_same f g (l ∷ ls) h = let rest = flat_same f g ls h.1 in λ i. h.0 i ++ rest i

each_to : (P Q : Cells → Type 0) (ls : List Cells) → ((l : Cells) → P l → Q l) → Each P ls → Each Q ls
each_to P Q [] f h = tt
each_to P Q (l ∷ ls) f h = (f l h.0, each_to P Q ls f h.1)

module _ (alloc : Global) (left side : SideLayout) (keys : Option (List Datum)) (rows : List Cells) (apart : (k : Value) → is_of keys (datum_of k) ≡ false → filter (has side.key (datum_of k)) rows ≡ []) where
  partners_same : (l : Cells) → can_name (cell_at l left.key) ≡ true → partners left side rows l ≡ partners left side (rows_named keys side.key rows) l
  partners_same l can = step (is_of keys (cell_at l left.key)) refl
    where
      step : (b : Bool) → is_of keys (cell_at l left.key) ≡ b → partners left side rows l ≡ partners left side (rows_named keys side.key rows) l
      step true e = sym (named_same keys side.key rows (cell_at l left.key) (and_both (is_of keys (cell_at l left.key)) (can_name (cell_at l left.key)) e can))
      step false e =
          let n = named_of alloc (cell_at l left.key) can in
          let none = subst (λ d. is_of keys d ≡ false → filter (has side.key d) rows ≡ []) n.is (apart n.value) e in
          none ∙ sym (named_none keys side.key rows (cell_at l left.key) (ap (λ b. b && can_name (cell_at l left.key)) e))

  pub output_named : (a : Option Aggregate) (ls : List Cells) → Each (λ l. can_name (cell_at l left.key) ≡ true) ls → output left (Some side) a ls rows ≡ output left (Some side) a ls (rows_named keys side.key rows)
  output_named None ls can =
      flat_same (λ l. map (λ r. l ++ r) (partners left side rows l)) (λ l. map (λ r. l ++ r) (partners left side (rows_named keys side.key rows) l)) ls
      (each_to (λ l. can_name (cell_at l left.key) ≡ true) _ ls (λ l c. ap (map (λ r. l ++ r)) (partners_same l c)) can)
  output_named (Some a) ls can =
      flat_same (λ l. with_total a l (partners left side rows l)) (λ l. with_total a l (partners left side (rows_named keys side.key rows) l)) ls
      (each_to (λ l. can_name (cell_at l left.key) ≡ true) _ ls (λ l c. ap (with_total a l) (partners_same l c)) can)
