use Rattle.std.proofs.Common.{◌∙◌}
use Rattle.plain.proofs.LogLoops.{floor_more}
use Rattle.plain.proofs.floors.floor_of.Goals as goal

pub loop-item-preserved : goal.loop-item-preserved
loop-item-preserved c =
    c.floor_after-floor.ensures
    ∙ floor_more c.args.plan.now c.args.session c.args.view c.args.shard c.args.items.now c.loop-item.item-index c.item-item.result c.loop-item.floor.now c.loop-item-test.true c.item-item.is c.loop-item.invariant
