use Rattle.std.proofs.Common.{◌≡◌, map, take}
use Rattle.row.specs.Cells.{datum_of}
use Rattle.row.proofs.cells.copies_of.Given as goal

abbrev pub invariant-loop-value : goal.invariant-loop-value
invariant-loop-value l = map datum_of l.all.items ≡ map datum_of (take l.value-index l.values)
