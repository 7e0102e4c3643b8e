use Rattle.std.proofs.Common.{◌≡◌, filter, take}
use Rattle.base.specs.Parts.{is_in}
use Rattle.base.proofs.index.each_in.Given as goal

abbrev pub invariant-loop-row : goal.invariant-loop-row
invariant-loop-row l = l.copies.items ≡ filter (is_in l.part) (take l.row-index l.rows)
