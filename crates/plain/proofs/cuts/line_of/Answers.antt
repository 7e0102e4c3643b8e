use Rattle.std.proofs.Common.{◌∙◌, length, min, get_or, refl, arith, ◌<◌, ◌≤◌}
use Rattle.model.specs.Places.{sources}
use Rattle.model.specs.Items.{history_of}
use Rattle.plain.proofs.CutLoops.{line_more, line_whole}
use Rattle.plain.proofs.cuts.line_of.Goals as goal

pub loop-source-preserved : goal.loop-source-preserved
loop-source-preserved c =
    let h = history_of c.args.items.now in
    let bs = sources c.args.plan.now in
    let ns = c.args.line.now in
    let i = c.loop-source.source in
    let wide = c.source_count.ensures.count in
    let lb : i < length bs = omega (arith, wide, c.min-source-end.ensures, c.loop-source-test.true) in
    let ln : i < length ns = omega (arith, wide, c.min-source-end.ensures, c.loop-source-test.true) in
    c.in_ok-push.ensures.items
    ∙ line_more h bs ns i c.source_at-base.result (get_or ns i 0) c.loop-source.fronts.items c.in_ok-front_of.field-0 lb ln c.source_at-base.ensures refl c.in_ok-front_of.ensures c.loop-source.invariant

pub returns : goal.returns
returns c =
    let bs = sources c.args.plan.now in
    let ns = c.args.line.now in
    let i = c.loop-source.source in
    let done : min (length bs) (length ns) ≤ i = omega (arith, c.source_count.ensures.count, c.min-source-end.ensures, c.loop-source-test.false) in
    c.new.ensures ∙ (c.loop-source.invariant ∙ line_whole (history_of c.args.items.now) bs ns i done)
