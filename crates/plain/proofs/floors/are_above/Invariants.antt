use Rattle.std.proofs.Common.{ℕ, ◌<◌}
use Rattle.plan.specs.Layouts.{view_at}
use Rattle.model.specs.Cuts.{IsAtMost}
use Rattle.model.specs.Histories.{floor_at, floor_of}
use Rattle.model.specs.Items.{history_of}
use Rattle.plain.proofs.floors.are_above.Given as goal

abbrev pub invariant-loop-view : goal.invariant-loop-view
invariant-loop-view l = (i : ℕ) → i < l.view → (j : ℕ) → j < (view_at l.plan i).shards → IsAtMost (floor_of l.plan l.session i j (history_of l.items)) (floor_at l.floors i j)
