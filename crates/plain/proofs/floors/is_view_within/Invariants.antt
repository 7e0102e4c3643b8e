use Rattle.std.proofs.Common.{ℕ, ◌<◌}
use Rattle.model.specs.Cuts.{IsWithin}
use Rattle.model.specs.Histories.{floor_at}
use Rattle.model.specs.Items.{history_of}
use Rattle.plain.proofs.floors.is_view_within.Given as goal

abbrev pub invariant-loop-shard : goal.invariant-loop-shard
invariant-loop-shard l = (j : ℕ) → j < l.shard → IsWithin l.plan (history_of l.items) (floor_at l.floors l.view j)
