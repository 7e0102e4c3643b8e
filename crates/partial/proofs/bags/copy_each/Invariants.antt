use Rattle.std.proofs.Common.{◌≡◌, ◌++◌, take}
use Rattle.partial.proofs.bags.copy_each.Given as goal

abbrev pub invariant-loop-row : goal.invariant-loop-row
invariant-loop-row l = record { copied : l.all.items ≡ l.fn.all.items ++ take l.row-index l.rows }
