use Rattle.std.proofs.Common.{length, drop, ◌-◌, ◌≡◌, ◌+◌, ◌++◌, ◌≤◌}
use Rattle.row.specs.Bags.{IsAscending, times}
use Rattle.row.specs.Cells.{Cells, row_cmp}
use Rattle.partial.proofs.bags.merged.Given as goal

abbrev pub invariant-loop-i : goal.invariant-loop-i
invariant-loop-i l = record {
  first_within : l.i ≤ length l.first;
  second_within : l.j ≤ length l.second;
  first_up : IsAscending row_cmp (l.all.items ++ drop l.i l.first);
  second_up : IsAscending row_cmp (l.all.items ++ drop l.j l.second);
  counts : (z : Cells) → times row_cmp z l.all.items + (times row_cmp z (drop l.i l.first) + times row_cmp z (drop l.j l.second)) ≡ times row_cmp z l.first + times row_cmp z l.second;
}

abbrev pub decreases-loop-i : goal.decreases-loop-i
decreases-loop-i l = (length l.first - l.i) + (length l.second - l.j)
