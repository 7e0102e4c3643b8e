use Rattle.std.proofs.Common.{◌≡◌, IsTrue, refl, subst, sym}
use Rattle.std.specs.declared.cmp.Ordering.{Ordering}
use Rattle.std.specs.declared.cmp.Ordering.TheVariants.{Less, Equal, Greater}
use Rattle.std.specs.Ordering.{eq_by_cmp, is_eq}
use Rattle.row.specs.Cells.{Cells, row_cmp}
use Rattle.row.specs.CellOrder.{row_same, row_equivalence}
use Rattle.model.proofs.entry.same_row.Goals as goal

tied : (o : Ordering) → IsTrue (is_eq o) → o ≡ Equal
tied Less t = absurd (cc t)
tied Equal t = refl
tied Greater t = absurd (cc t)

pub returns : goal.returns
returns c =
    let x = c.args.row.now in
    let y = c.args.other.now in (
      λ t. row_same x y (tied (row_cmp x y) (subst IsTrue c.eq.ensures t)),
      λ same. subst IsTrue (sym c.eq.ensures) (subst (λ (z : Cells). IsTrue (eq_by_cmp row_cmp x z)) same (row_equivalence.refl x)),
    )
