use Rattle.std.proofs.Common.{ℕ, ◌<◌, ◌≤◌, get_or}
use Rattle.model.specs.Histories.{len_at}
use Rattle.plain.proofs.cuts.is_line_at_most.Given as goal

abbrev pub invariant-loop-source : goal.invariant-loop-source
invariant-loop-source l = (j : ℕ) → j < l.source → get_or l.line j 0 ≤ len_at l.cut l.stage j
