use Rattle.std.proofs.Common.{◌≡◌, List, length}
use Rattle.row.specs.Cells.{Cells}
use Rattle.base.specs.Indexed.{AreIndexes}
use Rattle.base.proofs.index.expect_all.Given as goal

abbrev pub invariant-loop-place : goal.invariant-loop-place
invariant-loop-place l = ((rows : List Cells) → AreIndexes rows l.fn.indexes.items → AreIndexes rows l.indexes.items) × (length l.indexes.items ≡ length l.fn.indexes.items)
