use Rattle.std.proofs.Common.{ℕ, ◌<◌}
use Rattle.row.specs.Bags.{Each}
use Rattle.plan.specs.Layouts.{view_at}
use Rattle.model.specs.Histories.{floor_at}
use Rattle.model.specs.Legal.{IsPast}
use Rattle.model.specs.Tables.{places_of}
use Rattle.plain.proofs.own.are_past.Given as goal

abbrev pub invariant-loop-view : goal.invariant-loop-view
invariant-loop-view l = (i : ℕ) → i < l.view → (j : ℕ) → j < (view_at l.plan i).shards → Each (IsPast l.plan (floor_at l.floors i j)) (places_of l.own)
