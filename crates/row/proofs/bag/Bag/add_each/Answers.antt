use Rattle.std.proofs.Common.{[], ◌∷◌, arith}
use Rattle.row.specs.Cells.{row_cmp}
use Rattle.row.proofs.BagLemmas.{times-inserted, times-append}
use Rattle.row.proofs.bag.Bag.add_each.Goals as goal

pub loop-row-preserved : goal.loop-row-preserved
loop-row-preserved c = λ z.
    rw (c.in_ok-add.ensures.added) (omega (
      arith,
      times-inserted row_cmp z c.in-Some.row c.loop-row.self,
      c.loop-row.invariant z,
      times-append row_cmp z c.loop-row.yielded (c.in-Some.row ∷ []),
    ))
