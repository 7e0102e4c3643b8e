use Rattle.std.proofs.Common.{◌≡◌, take}
use Rattle.model.specs.Places.{sources}
use Rattle.model.specs.Cuts.{line_of}
use Rattle.model.specs.Items.{history_of}
use Rattle.plain.proofs.cuts.line_of.Given as goal

abbrev pub invariant-loop-source : goal.invariant-loop-source
invariant-loop-source l = l.fronts.items ≡ line_of (history_of l.items) (take l.source (sources l.plan)) (take l.source l.line)
