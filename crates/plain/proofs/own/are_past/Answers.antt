use Rattle.std.proofs.Common.{◌<◌, length, arith, below_more}
use Rattle.plain.proofs.own.are_past.Goals as goal

pub returns-then-not-is_view_past : goal.returns-then-not-is_view_past
returns-then-not-is_view_past c = λ each.
    let lt : c.loop-view.view < length c.args.plan.now.views = omega (arith, c.loop-view-test.true, c.views-view-end.ensures) in
    c.if-not-is_view_past.ensures (λ j. each c.loop-view.view j lt)

pub loop-view-preserved : goal.loop-view-preserved
loop-view-preserved c = below_more _ _ c.loop-view.invariant c.if-not-is_view_past.ensures

pub returns : goal.returns
returns c = λ i j lt. c.loop-view.invariant i (omega (arith, lt, c.loop-view-test.false, c.views-view-end.ensures)) j
