use Rattle.std.proofs.Common.{◌≡◌, true}
use Rattle.std.specs.List.{list_all, range_with_len}
use Rattle.schedule.specs.Sessions.{holds_line}
use Rattle.schedule.proofs.cuts.covers.Given as goal

abbrev pub invariant-loop-stage : goal.invariant-loop-stage
invariant-loop-stage l = list_all (λ s. holds_line l.places l.own l.cut s) (range_with_len 0 l.stage) ≡ true
