use Rattle.std.proofs.Common.{◌∙◌, map, refl}
use Rattle.model.specs.Entries.{change_of}
use Rattle.plain.proofs.LogLoops.{log_more}
use Rattle.plain.proofs.logs.entries_of.Goals as goal

pub loop-item-preserved : goal.loop-item-preserved
loop-item-preserved c =
    c.in_ok-push_entry.ensures
    ∙ log_more c.args.base c.args.items.now c.loop-item.item-index c.item-item.result (map change_of c.loop-item.entries.items) _ c.loop-item-test.true c.item-item.is refl c.loop-item.invariant
