use Rattle.std.proofs.Common.{arith}
use Rattle.row.specs.Cells.{row_cmp}
use Rattle.row.specs.Bags.{joined}
use Rattle.row.proofs.BagLemmas.{IsAscending-removed}
use Rattle.key_rows.proofs.pieces.PiecedRows.take_away.Goals as goal

pub invariant_of-self-2 : goal.invariant_of-self-2
invariant_of-self-2 c = (
  rw c.in_ok-taken.ensures.ok (IsAscending-removed row_cmp c.args.row.now (joined c.self.inside.pieces.items) c.self.invariant.0),
  omega (arith, c.in_ok-taken.ensures.taken, c.self.invariant.1),
)
