use Rattle.std.proofs.Common.{ℕ, ◌<◌}
use Rattle.model.specs.Cuts.{IsAtMost}
use Rattle.model.specs.Histories.{floor_at, floor_of}
use Rattle.model.specs.Items.{history_of}
use Rattle.plain.proofs.floors.is_view_above.Given as goal

abbrev pub invariant-loop-shard : goal.invariant-loop-shard
invariant-loop-shard l = (j : ℕ) → j < l.shard → IsAtMost (floor_of l.plan l.session l.view j (history_of l.items)) (floor_at l.floors l.view j)
