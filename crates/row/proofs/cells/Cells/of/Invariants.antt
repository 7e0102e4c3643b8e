use Rattle.std.proofs.Common.{◌≡◌, map}
use Rattle.row.specs.Cells.{datum_of}
use Rattle.row.proofs.cells.Cells.of.Given as goal

abbrev pub invariant-loop-value : goal.invariant-loop-value
invariant-loop-value l = l.cells ≡ map datum_of l.yielded
