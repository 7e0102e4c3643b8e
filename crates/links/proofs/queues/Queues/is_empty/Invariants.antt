use Rattle.std.proofs.Common.{◌≡◌, drop}
use Rattle.links.specs.Queued.{holds_any}
use Rattle.links.proofs.queues.Queues.is_empty.Given as goal

abbrev pub invariant-loop-edge : goal.invariant-loop-edge
invariant-loop-edge g l = holds_any (drop l.edge l.self) ≡ holds_any l.self
