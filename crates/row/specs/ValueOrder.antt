-- The order of the program's values keeps the laws, and equal ones are hashed alike. No public clause
-- cites it.
use Rattle.std.specs.Prelude.{◌≡◌, Bool, cond}
use Rattle.std.specs.Bool.{IsTrue}
use Rattle.std.specs.Hash as fed
use Rattle.std.specs.declared.cmp.Ordering.{Ordering}
use Rattle.std.specs.declared.cmp.Ordering.TheVariants.{Less, Equal, Greater}
use Rattle.std.specs.Ordering.{as_partial_cmp, is_eq}
use Rattle.std.specs.Cmp.{IsTotalOrder, IsEquivalence, IsPartialEquivalence, IsPartialOrder, on_total, partial_equiv_from_equiv, eq_by_cmp_equiv, partial_order_from_agreeing_total}
use Rattle.std.proofs.Common.{ap, refl}
use Rattle.row.specs.declared.value.Value.{Value}
use Rattle.row.specs.Cells.{Datum, int, text, datum_of, datum_cmp}
use Rattle.row.specs.Numbers.{is_small}
use Rattle.row.specs.CellOrder.{datum_total, datum_same}

-- as their cells stand
abbrev pub value_cmp : Value → Value → Ordering
value_cmp v w = datum_cmp (datum_of v) (datum_of w)

-- whether their cells are one
unfoldable pub value_eq : Value → Value → Bool
value_eq v w = is_eq (value_cmp v w)

pub value_ties : (v w : Value) → value_eq v w ≡ is_eq (value_cmp v w)
unfolding value_eq
value_ties v w = refl

pub value_total : IsTotalOrder value_cmp
value_total = on_total datum_of datum_total

pub value_is_equivalence : IsEquivalence value_eq
unfolding value_eq
value_is_equivalence = eq_by_cmp_equiv value_total

pub value_partial_equivalence : IsPartialEquivalence value_eq
value_partial_equivalence = partial_equiv_from_equiv value_is_equivalence

pub value_partial_laws : IsPartialOrder value_eq (as_partial_cmp value_cmp)
unfolding value_eq
value_partial_laws = partial_order_from_agreeing_total value_cmp value_total (λ x y. refl) (λ x y. refl)

-- what is hashed of a cell: a number of 64 bits as such a one, any other as one of 128, a text as a text
abbrev pub writes_of : Datum → fed.HashWrites
writes_of (int n) = cond (is_small n) (fed.i64 n) (fed.i128 n)
writes_of (text bytes) = fed.str bytes

abbrev pub value_writes : Value → fed.HashWrites
value_writes v = writes_of (datum_of v)

-- equal values are hashed alike
pub value_alike : (v w : Value) → IsTrue (value_eq v w) → value_writes v ≡ value_writes w
unfolding value_eq
value_alike v w h = ap writes_of (step (value_cmp v w) refl h)
  where
    step : (o : Ordering) → value_cmp v w ≡ o → IsTrue (is_eq o) → datum_of v ≡ datum_of w
    step Less e q = cc
    step Equal e q = datum_same (datum_of v) (datum_of w) e
    step Greater e q = cc
