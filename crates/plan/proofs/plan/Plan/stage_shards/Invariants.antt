use Rattle.std.proofs.Common.{◌≡◌, map}
use Rattle.std.specs.List.{range_with_len}
use Rattle.plan.specs.declared.domain.DomainId.TheVariants as domain
use Rattle.plan.proofs.plan.Plan.stage_shards.Given as goal

abbrev pub invariant-loop-shard : goal.invariant-loop-shard
invariant-loop-shard l = l.out.items ≡ map (λ n. domain.Stage n) (range_with_len 0 l.shard)
