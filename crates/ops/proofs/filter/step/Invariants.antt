use Rattle.std.proofs.Common.{◌≡◌, take}
use Rattle.ops.specs.Changes.{kept}
use Rattle.ops.proofs.filter.step.Given as goal

abbrev pub invariant-loop-record : goal.invariant-loop-record
invariant-loop-record l = l.all.items ≡ kept l.side.conditions (take l.record-index l.records)
