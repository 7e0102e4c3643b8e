use Rattle.plan.specs.declared.domain.DomainId.TheVariants as domain
use Rattle.plan.proofs.Ranges.{put_more}
use Rattle.plan.proofs.domain.push_view.Goals as goal

pub loop-shard-preserved : goal.loop-shard-preserved
loop-shard-preserved c = put_more (λ n. domain.View c.args.view n) c.args.out.now.items c.loop-shard.out.items _ c.loop-shard.shard c.loop-shard.invariant c.in_ok-push.ensures.items
