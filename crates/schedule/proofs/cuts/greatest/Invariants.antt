use Rattle.std.proofs.Common.{◌≡◌, map}
use Rattle.std.specs.List.{range_with_len}
use Rattle.schedule.specs.Sessions.{greatest_line}
use Rattle.schedule.proofs.cuts.greatest.Given as goal

abbrev pub invariant-loop-stage : goal.invariant-loop-stage
invariant-loop-stage l = l.cut ≡ map (greatest_line l.places l.a l.b) (range_with_len 0 l.stage)
