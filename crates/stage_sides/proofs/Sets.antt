-- Values in order and each once.
use Rattle.std.proofs.Common.{◌≡◌, ℕ, Bool, true, false, cond, ◌||◌, List, [], ◌∷◌, ◌++◌, map, flat_map, filter, Option, refl, ap, sym, ◌∙◌, subst, IsPermutation}
use Rattle.std.specs.List.{AllByRecursion, list_any, dedup, dedup_from}
use Rattle.std.specs.List.Retain.{IsFiltered, DiffersFromLast}
use Rattle.std.specs.List.Sorted.{IsSorted, IsStrictlySortedBy}
use Rattle.std.specs.declared.cmp.Ordering.TheVariants.{Less}
use Rattle.std.proofs.lemmas.List.{map-append}
use Rattle.std.proofs.lemmas.List.Filters.{dedup_is}
use Rattle.std.proofs.lemmas.List.Kept.{IsStrictlySortedBy-dedup}
use Rattle.std.proofs.lemmas.List.Sorted.{list_any-IsPermutation}
use Rattle.std.proofs.lemmas.Map.Keys.{sorted_head, sorted_tail}
use Rattle.row.specs.Bags.{Each}
use Rattle.row.specs.Cells.{Datum, Cells, datum_of, datum_cmp, same, cell_at, has}
use Rattle.row.specs.Groups.{RowsBy, equal}
use Rattle.row.specs.contracts.value.ValueOrd.TheImpl.{cmp-value}
use Rattle.row.specs.contracts.value.ValueOrd.TheImpl.Laws.{matches_eq-law, total-law}
use Rattle.row.specs.declared.record.Record.{Record}
use Rattle.row.specs.declared.value.Value.{Value}
use Rattle.row.proofs.Cellwise.{cmp-value_is}
use Rattle.row.proofs.Keys.{equal_is}
use Rattle.ops.specs.SideRows.{is_here}
use Rattle.ops.specs.Stages.{Sides, untold_by}
use Rattle.ops.specs.declared.side.Side.{Side}
use Rattle.ops.specs.declared.side.Side.TheVariants.{Left, Right}
use Rattle.packet.specs.Keys.{Ascends}
use Rattle.plan.specs.Layouts.{Layout}
use Rattle.stage_sides.specs.Held.{Held, IsSetOf, IsStageOf, untold_of, untold_lefts}
use Rattle.stage_sides.proofs.Steps.{held_of}

above_keys : (k : Value) (ys : List Value) → AllByRecursion (λ y. cmp-value.it k y ≡ Less) ys → Each (λ d. datum_cmp (datum_of k) d ≡ Less) (map datum_of ys)
above_keys k [] a = tt
above_keys k (y ∷ ys) a = (sym (cmp-value_is k y) ∙ a.0, above_keys k ys a.1)

ascends_keys : (keys : List Value) → IsStrictlySortedBy cmp-value.it keys → Ascends (map datum_of keys)
ascends_keys [] h = tt
ascends_keys (k ∷ ks) h = (above_keys k ks (sorted_head cmp-value.it k ks h), ascends_keys ks (sorted_tail cmp-value.it k ks h))

-- what a test says of data, it says of the values
any_map : (q : Datum → Bool) (xs : List Value) → list_any q (map datum_of xs) ≡ list_any (λ x. q (datum_of x)) xs
any_map q [] = refl
any_map q (x ∷ xs) = ap (λ b. q (datum_of x) || b) (any_map q xs)

twice : (a b : Bool) → (a || b) ≡ (a || (a || b))
twice true b = refl
twice false b = refl

module _ (q : Datum → Bool) where
  any_from : (y : Value) (xs : List Value) → list_any (λ x. q (datum_of x)) (dedup_from equal y xs) ≡ (q (datum_of y) || list_any (λ x. q (datum_of x)) xs)
  any_from y [] = refl
  any_from y (x ∷ xs) = step (equal x y) refl (any_from y xs) (any_from x xs)
    where
      step : (b : Bool) → equal x y ≡ b → list_any (λ x. q (datum_of x)) (dedup_from equal y xs) ≡ (q (datum_of y) || list_any (λ x. q (datum_of x)) xs)
          → list_any (λ x. q (datum_of x)) (dedup_from equal x xs) ≡ (q (datum_of x) || list_any (λ x. q (datum_of x)) xs)
          → list_any (λ x. q (datum_of x)) (cond b (dedup_from equal y xs) (y ∷ dedup_from equal x xs)) ≡ (q (datum_of y) || (q (datum_of x) || list_any (λ x. q (datum_of x)) xs))
      step true e h k = h ∙ (twice (q (datum_of y)) (list_any (λ x. q (datum_of x)) xs) ∙ ap (λ d. q (datum_of y) || (q d || list_any (λ x. q (datum_of x)) xs)) (sym (equal_is x y e)))
      step false e h k = ap (λ b. q (datum_of y) || b) k

  any_dedup : (xs : List Value) → list_any (λ x. q (datum_of x)) (dedup equal xs) ≡ list_any (λ x. q (datum_of x)) xs
  any_dedup [] = refl
  any_dedup (x ∷ xs) = any_from x xs

-- a sort, and then no value behind an equal one
pub set_of : (xs ups ys : List Value) → IsPermutation xs ups → IsSorted cmp-value.it ups → IsFiltered (DiffersFromLast equal) [] ups ys → IsSetOf (map datum_of xs) (map datum_of ys)
set_of xs ups ys moved up kept = rw (dedup_is equal ups ys kept) (record {
  order = ascends_keys (dedup equal ups) (IsStrictlySortedBy-dedup total-law matches_eq-law ups up);
  each = λ k. any_map (λ x. same x k) (dedup equal ups) ∙ (any_dedup (λ x. same x k) ups ∙ (sym (list_any-IsPermutation (λ x. same (datum_of x) k) xs ups moved) ∙ sym (any_map (λ x. same x k) xs)));
})

-- ---- of the left rows that records stand for
cells_if : (column : ℕ) (b : Bool) (ls : List Cells) → map (λ l. cell_at l column) (cond b [] ls) ≡ cond b [] (map (λ l. cell_at l column) ls)
cells_if column true ls = refl
cells_if column false ls = refl

module _ (p : Layout) (s : Sides) (f : List (Option RowsBy)) (of : IsStageOf p s) (column : ℕ) where
  cells_of : (side : Side) (r : Record) → map (λ l. cell_at l column) (untold_of side (held_of p s f) r) ≡ untold_by side s column r.row
  cells_of Left r = rw (sym of.left) (cells_if column (is_here s.right (cell_at r.row s.left.column)) (r.row ∷ []))
  cells_of Right r = rw (sym of.left) (cells_if column (is_here s.right (cell_at r.row s.right.column)) (filter (has s.left.column (cell_at r.row s.right.column)) s.left.rows))

  cells_all : (side : Side) (rs : List Record) → map (λ l. cell_at l column) (untold_lefts side (held_of p s f) rs) ≡ flat_map (λ (r : Record). untold_by side s column r.row) rs
  cells_all side [] = refl
  cells_all side (r ∷ rs) = map-append (λ l. cell_at l column) (untold_of side (held_of p s f) r) (untold_lefts side (held_of p s f) rs) ∙ (λ i. cells_of side r i ++ cells_all side rs i)

  pub untold_set : (h : Held) → held_of p s f ≡ h → (side : Side) (rs : List Record) (keys set : List Datum) → keys ≡ flat_map (λ (r : Record). untold_by side s column r.row) rs → IsSetOf keys set
      → IsSetOf (map (λ l. cell_at l column) (untold_lefts side h rs)) set
  untold_set h e side rs keys set is t = subst (λ ks. IsSetOf ks set) (is ∙ (sym (cells_all side rs) ∙ ap (λ (h : Held). map (λ l. cell_at l column) (untold_lefts side h rs)) e)) t
