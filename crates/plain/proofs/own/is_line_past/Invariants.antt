use Rattle.std.proofs.Common.{◌≡◌, ℕ, ◌<◌}
use Rattle.model.specs.Histories.{len_at}
use Rattle.model.specs.Places.{source_at}
use Rattle.plain.proofs.own.is_line_past.Given as goal

abbrev pub invariant-loop-source : goal.invariant-loop-source
invariant-loop-source l = (j : ℕ) → j < l.source → source_at l.plan j ≡ l.place.base → l.place.index < len_at l.cut l.stage j
