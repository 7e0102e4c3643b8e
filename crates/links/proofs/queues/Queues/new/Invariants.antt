use Rattle.std.proofs.Common.{◌≡◌, [], replicate}
use Rattle.links.proofs.queues.Queues.new.Given as goal

abbrev pub invariant-loop : goal.invariant-loop
invariant-loop g l = l.waiting.items ≡ replicate l.counter []
