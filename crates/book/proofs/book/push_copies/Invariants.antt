use Rattle.std.proofs.Common.{◌≡◌, ◌++◌, map}
use Rattle.std.specs.List.{range_with_len}
use Rattle.book.proofs.book.push_copies.Given as goal

abbrev pub invariant-loop-shard : goal.invariant-loop-shard
invariant-loop-shard g l = l.copies.items ≡ l.fn.copies.items ++ map (λ j. record { view = l.view; shard = j }) (range_with_len 0 l.shard)
