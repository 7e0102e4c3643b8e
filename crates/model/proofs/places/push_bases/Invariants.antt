use Rattle.std.proofs.Common.{◌≡◌, ◌<◌, ◌++◌}
use Rattle.std.specs.List.{range_with_len}
use Rattle.row.specs.Bags.{Each}
use Rattle.model.specs.Places.{base_at, base_count}
use Rattle.model.proofs.places.push_bases.Given as goal

abbrev pub invariant-loop-shard : goal.invariant-loop-shard
invariant-loop-shard l = record {
  bases : l.bases.items ≡ l.fn.bases.items ++ range_with_len (base_at l.plan l.side.table 0) l.shard;
  range : Each (λ b. b < base_count l.plan) l.bases.items;
}
