use Rattle.std.proofs.Common.{◌≡◌, length}
use Rattle.row.specs.Bags.{Each}
use Rattle.book.specs.Fronts.{FrontView}
use Rattle.system.proofs.starter.Starter.assign_bases.Given as goal

abbrev pub invariant-loop-log : goal.invariant-loop-log
invariant-loop-log g l = Each (λ (f : FrontView). f.len ≡ 0) l.logs.items

abbrev pub decreases-loop-log : goal.decreases-loop-log
decreases-loop-log g l = length l.logs.items
