use Rattle.std.proofs.Common.{◌≡◌, ◌++◌}
use Rattle.key_rows.proofs.answer_rows.AnswerRows.to_rows.Given as goal

abbrev pub invariant-loop-row : goal.invariant-loop-row
invariant-loop-row l = l.rows.items ++ l.row-iterator ≡ l.self
