use Rattle.std.proofs.Common.{◌≡◌, ◌++◌, map}
use Rattle.std.specs.List.{range_with_len}
use Rattle.plan.specs.declared.domain.DomainId.TheVariants as domain
use Rattle.plan.proofs.domain.push_bases.Given as goal

abbrev pub invariant-loop-shard : goal.invariant-loop-shard
invariant-loop-shard l = l.out.items ≡ l.fn.out.items ++ map (λ n. domain.Base l.table n) (range_with_len 0 l.shard)
