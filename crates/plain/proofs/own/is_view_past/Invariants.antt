use Rattle.std.proofs.Common.{ℕ, ◌<◌}
use Rattle.row.specs.Bags.{Each}
use Rattle.model.specs.Histories.{floor_at}
use Rattle.model.specs.Legal.{IsPast}
use Rattle.model.specs.Tables.{places_of}
use Rattle.plain.proofs.own.is_view_past.Given as goal

abbrev pub invariant-loop-shard : goal.invariant-loop-shard
invariant-loop-shard l = (j : ℕ) → j < l.shard → Each (IsPast l.plan (floor_at l.floors l.view j)) (places_of l.own)
