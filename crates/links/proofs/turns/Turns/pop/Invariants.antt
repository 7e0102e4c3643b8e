use Rattle.std.proofs.Common.{◌≡◌}
use Rattle.links.proofs.Waiting.{AreEmpty}
use Rattle.links.proofs.turns.Turns.pop.Given as goal

abbrev pub invariant-loop-edge : goal.invariant-loop-edge
invariant-loop-edge g l = record {
  same : l.self ≡ l.fn.self;
  empty : AreEmpty l.fn.self.waiting l.fn.self.edge l.edge;
}
