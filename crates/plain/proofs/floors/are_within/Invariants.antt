use Rattle.std.proofs.Common.{ℕ, ◌<◌}
use Rattle.plan.specs.Layouts.{view_at}
use Rattle.model.specs.Cuts.{IsWithin}
use Rattle.model.specs.Histories.{floor_at}
use Rattle.model.specs.Items.{history_of}
use Rattle.plain.proofs.floors.are_within.Given as goal

abbrev pub invariant-loop-view : goal.invariant-loop-view
invariant-loop-view l = (i : ℕ) → i < l.view → (j : ℕ) → j < (view_at l.plan i).shards → IsWithin l.plan (history_of l.items) (floor_at l.floors i j)
