use Rattle.std.proofs.Common.{◌≡◌, ◌+◌}
use Rattle.row.specs.Cells.{Cells, row_cmp}
use Rattle.row.specs.Bags.{times}
use Rattle.row.proofs.bag.Bag.add_each.Given as goal

abbrev pub invariant-loop-row : goal.invariant-loop-row
invariant-loop-row l = (z : Cells) → times row_cmp z l.self ≡ times row_cmp z l.fn.self + times row_cmp z l.yielded
