use Rattle.std.proofs.Common.{◌≡◌, ap, ◌∙◌}
use Rattle.std.proofs.lemmas.List.{take_all}
use Rattle.plan.specs.Outputs.{pass}
use Rattle.ops.specs.Changes.{kept}
use Rattle.row.proofs.RecordLaws.{Turns-filter}
use Rattle.ops.proofs.filter.step.Goals as goal

pub returns-clause-difference : goal.returns-clause-difference
returns-clause-difference c =
    let e : c.loop-record.all.items ≡ kept c.args.side.now.conditions c.args.records.now =
    c.loop-record.invariant ∙ ap (kept c.args.side.now.conditions) (take_all c.loop-record.record-index c.args.records.now c.loop-record-test.false) in
    λ before after t. rw e (Turns-filter (pass c.args.side.now.conditions) before c.args.records.now after t)
