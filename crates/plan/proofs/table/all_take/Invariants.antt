use Rattle.std.proofs.Common.{◌≡◌, drop}
use Rattle.plan.specs.Kinds.{is_row}
use Rattle.plan.proofs.table.all_take.Given as goal

abbrev pub invariant-loop-at : goal.invariant-loop-at
invariant-loop-at l = is_row l.columns l.row ≡ is_row (drop l.at l.columns) (drop l.at l.row)
