use Rattle.std.proofs.Common.{◌≡◌, flat_map}
use Rattle.std.specs.List.{range_with_len}
use Rattle.plan.specs.Domains.{shards_of_view}
use Rattle.plan.proofs.plan.Plan.view_shards.Given as goal

abbrev pub invariant-loop-view : goal.invariant-loop-view
invariant-loop-view l = l.out.items ≡ flat_map (shards_of_view l.self) (range_with_len 0 l.view)
