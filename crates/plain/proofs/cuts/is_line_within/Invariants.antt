use Rattle.std.proofs.Common.{ℕ, ◌<◌, ◌≤◌, length, get_or}
use Rattle.model.specs.Places.{source_at}
use Rattle.model.specs.Histories.{log_of}
use Rattle.model.specs.Items.{history_of}
use Rattle.plain.proofs.cuts.is_line_within.Given as goal

abbrev pub invariant-loop-source : goal.invariant-loop-source
invariant-loop-source l = (j : ℕ) → j < l.source → get_or l.line j 0 ≤ length (log_of (source_at l.plan j) (history_of l.items))
