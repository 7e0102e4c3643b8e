use Rattle.std.proofs.Common.{◌≡◌, replicate}
use Rattle.model.proofs.floors.even_row.Given as goal

abbrev pub invariant-loop-shard : goal.invariant-loop-shard
invariant-loop-shard l = l.row.items ≡ replicate l._shard (replicate l.stages l.line)
