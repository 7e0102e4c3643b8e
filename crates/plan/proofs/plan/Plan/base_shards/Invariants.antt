use Rattle.std.proofs.Common.{◌≡◌, flat_map}
use Rattle.std.specs.List.{range_with_len}
use Rattle.plan.specs.Domains.{shards_of_table}
use Rattle.plan.proofs.plan.Plan.base_shards.Given as goal

abbrev pub invariant-loop-table : goal.invariant-loop-table
invariant-loop-table l = l.out.items ≡ flat_map (shards_of_table l.self) (range_with_len 0 l.table)
