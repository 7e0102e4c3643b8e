use Rattle.std.proofs.Common.{◌≡◌, ◌++◌}
use Rattle.key_rows.proofs.list.PlacedRows.copied.Given as goal

abbrev pub invariant-loop-row : goal.invariant-loop-row
invariant-loop-row l = l.copies.items ++ l.row-iterator ≡ l.fn.rows
