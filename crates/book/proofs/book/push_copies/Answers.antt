use Rattle.std.proofs.Common.{◌++◌, ◌∷◌, [], ap, ◌∙◌}
use Rattle.plan.proofs.Ranges.{put_more}
use Rattle.book.proofs.book.push_copies.Goals as goal

pub loop-shard-preserved : goal.loop-shard-preserved
loop-shard-preserved g c = put_more (λ j. record { view = c.args.view; shard = j }) c.args.copies.now.items c.loop-shard.copies.items c.push.new.self.items c.loop-shard.shard c.loop-shard.invariant (c.in_ok-push.ensures.items ∙ ap (λ t. c.loop-shard.copies.items ++ t ∷ []) c.first.ensures)
