use Rattle.std.proofs.Common.{◌≡◌}
use Rattle.row.specs.Cells.{Cells, row_cmp}
use Rattle.row.specs.Bags.{times, joined}
use Rattle.key_rows.proofs.kept.sum.Given as goal

abbrev pub invariant-loop-piece : goal.invariant-loop-piece
invariant-loop-piece l = record { counts : (z : Cells) → times row_cmp z l.all ≡ times row_cmp z (joined l.yielded) }
