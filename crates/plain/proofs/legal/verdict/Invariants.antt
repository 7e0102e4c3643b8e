use Rattle.std.proofs.Common.{take}
use Rattle.model.specs.Legal.{IsLegal}
use Rattle.model.specs.Items.{history_of}
use Rattle.plain.proofs.legal.verdict.Given as goal

abbrev pub invariant-loop-at : goal.invariant-loop-at
invariant-loop-at l = IsLegal l.plan l.sessions (history_of (take l.at l.items))
