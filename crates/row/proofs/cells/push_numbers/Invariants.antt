use Rattle.std.proofs.Common.{◌≡◌, ◌++◌, map, take}
use Rattle.row.specs.Cells.{datum_of}
use Rattle.row.specs.Packed.{whole}
use Rattle.row.proofs.cells.push_numbers.Given as goal

abbrev pub invariant-loop-number : goal.invariant-loop-number
invariant-loop-number l = map datum_of l.values.items ≡ map datum_of l.initial.values.items ++ map whole (take l.number-index l.numbers)
