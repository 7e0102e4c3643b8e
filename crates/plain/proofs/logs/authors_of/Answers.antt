use Rattle.std.proofs.Common.{◌∙◌, refl}
use Rattle.plain.proofs.LogLoops.{authors_more}
use Rattle.plain.proofs.logs.authors_of.Goals as goal

pub loop-item-preserved : goal.loop-item-preserved
loop-item-preserved c =
    c.in_ok-push_author.ensures
    ∙ authors_more c.args.base c.args.items.now c.loop-item.item-index c.item-item.result c.loop-item.authors.items _ c.loop-item-test.true c.item-item.is refl c.loop-item.invariant
