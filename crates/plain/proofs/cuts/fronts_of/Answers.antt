use Rattle.std.proofs.Common.{◌<◌, length, arith, ◌∙◌, []}
use Rattle.model.proofs.Lists.{any_end}
use Rattle.model.specs.Items.{history_of}
use Rattle.plain.proofs.CutLoops.{fronts_more}
use Rattle.plain.proofs.cuts.fronts_of.Goals as goal

pub loop-stage-preserved : goal.loop-stage-preserved
loop-stage-preserved c =
    let cut = c.args.cut.now in
    let s = c.loop-stage.stage in
    let lt : s < length cut = omega (arith, c.loop-stage-test.true, c.stages-stage-end.ensures) in
    c.in_ok-push.ensures.items
    ∙ fronts_more c.args.plan.now (history_of c.args.items.now) cut s c.line.result.now c.loop-stage.lines.items c.in_ok-line_of.field-0 lt (c.line.ensures ∙ any_end cut s [] c.line.result.now lt) c.in_ok-line_of.ensures c.loop-stage.invariant
