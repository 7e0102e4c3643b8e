use Rattle.std.proofs.Common.{◌≡◌, map}
use Rattle.std.specs.List.{range_with_len}
use Rattle.model.specs.Histories.{len_at}
use Rattle.protocol.specs.WorldSteps.{greater}
use Rattle.schedule.proofs.cuts.greatest_line.Given as goal

abbrev pub invariant-loop-source : goal.invariant-loop-source
invariant-loop-source l = l.line.items ≡ map (λ j. greater (len_at l.a l.stage j) (len_at l.b l.stage j)) (range_with_len 0 l.source)
