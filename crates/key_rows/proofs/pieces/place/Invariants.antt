use Rattle.std.proofs.Common.{◌≡◌, ◌+◌, ◌-◌, ◌<◌, ◌≤◌, [], length, take, get_or, true}
use Rattle.std.specs.Ordering.{is_gt}
use Rattle.row.specs.Bags.{Each, joined}
use Rattle.row.specs.Cells.{row_cmp}
use Rattle.key_rows.specs.Pieces.{has_reached}
use Rattle.key_rows.proofs.pieces.place.Given as goal

abbrev pub invariant-loop-low : goal.invariant-loop-low
invariant-loop-low l = record {
  ordered : l.low ≤ l.high;
  small : l.high < length l.pieces;
  before : Each (λ y. is_gt (row_cmp l.row y) ≡ true) (joined (take l.low l.pieces));
  here : l.high + 1 < length l.pieces → has_reached row_cmp l.row (get_or l.pieces l.high []) ≡ true;
}

abbrev pub decreases-loop-low : goal.decreases-loop-low
decreases-loop-low l = l.high - l.low
