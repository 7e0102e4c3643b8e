use Rattle.std.proofs.Common.{◌≡◌, take}
use Rattle.key_rows.proofs.list.PlacedRows.of.Given as goal

abbrev pub invariant-loop-row : goal.invariant-loop-row
invariant-loop-row l = l.placed.items ≡ take l.row-index l.rows
