use Rattle.view_domain.proofs.LineSteps.{Same}
use Rattle.view_domain.proofs.turn.starts_at.Given as goal

abbrev pub invariant-loop-source : goal.invariant-loop-source
invariant-loop-source g l = record {
  whole : Same l.from l.to l.held l.source → Same l.from l.to l.held 0;
  rest : Same l.from l.to l.held 0 → Same l.from l.to l.held l.source;
}
