use Rattle.std.proofs.Common.{◌≡◌, ◌++◌, map}
use Rattle.std.specs.List.{range_with_len}
use Rattle.schedule.specs.Codes.{reader_in}
use Rattle.schedule.proofs.readers.push_readers.Given as goal

abbrev pub invariant-loop-shard : goal.invariant-loop-shard
invariant-loop-shard l = map reader_in l.out.items ≡ map reader_in l.fn.out.items ++ map (λ j. record { view = l.view; shard = j }) (range_with_len 0 l.shard)
