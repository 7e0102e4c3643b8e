use Rattle.std.proofs.Common.{arith, ap, length}
use Rattle.row.specs.Cells.{row_cmp}
use Rattle.row.specs.CellOrder.{row_total}
use Rattle.row.specs.Bags.{joined}
use Rattle.row.proofs.BagLemmas.{IsAscending-inserted}
use Rattle.key_rows.proofs.Pieced.{length-inserted}
use Rattle.key_rows.proofs.pieces.PiecedRows.add.Goals as goal

pub invariant_of-self-2 : goal.invariant_of-self-2
invariant_of-self-2 c =
    let rows = joined c.self.inside.pieces.items in (
      rw c.in_ok-add.ensures.ok (IsAscending-inserted row_cmp row_total c.args.row rows c.self.invariant.0),
      omega (arith, c.in-Some.ensures, ap length c.in_ok-add.ensures.ok, length-inserted row_cmp c.args.row rows, c.self.invariant.1),
    )
