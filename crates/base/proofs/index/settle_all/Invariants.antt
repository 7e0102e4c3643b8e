use Rattle.std.proofs.Common.{◌≡◌, ◌∷◌, List, length}
use Rattle.row.specs.Cells.{Cells}
use Rattle.base.specs.Indexed.{IsIndex, AreIndexes}
use Rattle.base.proofs.Indexes.{Mixed}
use Rattle.base.proofs.index.settle_all.Given as goal

abbrev pub invariant-loop-place : goal.invariant-loop-place
invariant-loop-place l = ((rows : List Cells) → AreIndexes rows l.fn.indexes.items → Mixed (IsIndex rows) (IsIndex (l.row ∷ rows)) l.place l.indexes.items) × (length l.indexes.items ≡ length l.fn.indexes.items)
