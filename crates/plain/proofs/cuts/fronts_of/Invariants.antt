use Rattle.std.proofs.Common.{◌≡◌, take}
use Rattle.model.specs.Cuts.{fronts_of}
use Rattle.model.specs.Items.{history_of}
use Rattle.plain.proofs.cuts.fronts_of.Given as goal

abbrev pub invariant-loop-stage : goal.invariant-loop-stage
invariant-loop-stage l = l.lines.items ≡ fronts_of l.plan (history_of l.items) (take l.stage l.cut)
