use Rattle.std.proofs.Common.{◌≡◌, take, filter}
use Rattle.row.specs.Cells.{row_cmp}
use Rattle.row.specs.Bags.{sorted}
use Rattle.plan.specs.Outputs.{pass}
use Rattle.ops.proofs.filter.full.Given as goal

abbrev pub invariant-loop-row : goal.invariant-loop-row
invariant-loop-row l = l.bag ≡ sorted row_cmp (filter (pass l.side.conditions) (take l.row-index l.rows))
