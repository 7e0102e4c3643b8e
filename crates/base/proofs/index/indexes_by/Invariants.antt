use Rattle.std.proofs.Common.{[]}
use Rattle.base.specs.Indexed.{AreIndexes}
use Rattle.base.proofs.index.indexes_by.Given as goal

abbrev pub invariant-loop-column : goal.invariant-loop-column
invariant-loop-column l = AreIndexes [] l.indexes.items
