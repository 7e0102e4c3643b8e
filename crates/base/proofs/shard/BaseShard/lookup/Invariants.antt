use Rattle.std.proofs.Common.{◌≡◌, ◌++◌}
use Rattle.row.specs.Cells.{datum_of}
use Rattle.base.proofs.Finds.{wanted}
use Rattle.base.proofs.shard.BaseShard.lookup.Given as goal

-- what was found, and what the rest has, are what all rows have
abbrev pub invariant-loop-row : goal.invariant-loop-row
invariant-loop-row l =
    let of = wanted l.column (datum_of l.value) l.part in
    l.found.items ++ of l.row-iterator ≡ of l.initial.row-iterator
