use Rattle.std.proofs.Common.{arith}
use Rattle.stage_sides.specs.Held.{untold_lefts}
use Rattle.stage_steps.proofs.Untold.{all_names, more_names}
use Rattle.stage_steps.proofs.entries.names.Goals as goal

pub loop-view-preserved : goal.loop-view-preserved
loop-view-preserved c =
    more_names c.args.plan.now c.args.rows.now.plan (untold_lefts c.args.side c.args.rows.now c.args.records.now) c.loop-view.view c.loop-view.names.items c.push.new.self.items c.in_ok-untold.field-0 c.requires.plan
    (omega (arith, c.loop-view-test.true, c.views-view-end.ensures)) c.loop-view.invariant c.in_ok-push.ensures.items c.in_ok-untold.ensures

pub returns : goal.returns
returns c =
    all_names c.args.plan.now (untold_lefts c.args.side c.args.rows.now c.args.records.now) c.loop-view.view c.loop-view.names.items (omega (arith, c.loop-view-test.false, c.views-view-end.ensures)) c.loop-view.invariant
