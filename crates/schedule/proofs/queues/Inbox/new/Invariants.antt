use Rattle.std.proofs.Common.{◌≡◌, [], replicate}
use Rattle.schedule.proofs.queues.Inbox.new.Given as goal

abbrev pub invariant-loop : goal.invariant-loop
invariant-loop g l = l.queues.items ≡ replicate l.counter []
