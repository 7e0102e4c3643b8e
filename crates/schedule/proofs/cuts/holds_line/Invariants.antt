use Rattle.std.proofs.Common.{◌≡◌, true}
use Rattle.std.specs.List.{list_all, range_with_len}
use Rattle.schedule.specs.Sessions.{holds}
use Rattle.schedule.proofs.cuts.holds_line.Given as goal

abbrev pub invariant-loop-source : goal.invariant-loop-source
invariant-loop-source l = list_all (λ j. holds l.places l.own l.cut l.stage j) (range_with_len 0 l.source) ≡ true
