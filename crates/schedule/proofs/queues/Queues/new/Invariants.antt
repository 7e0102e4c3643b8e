use Rattle.std.proofs.Common.{◌≡◌, [], replicate}
use Rattle.schedule.proofs.queues.Queues.new.Given as goal

abbrev pub invariant-loop : goal.invariant-loop
invariant-loop g l = l.inboxes.items ≡ replicate l.counter (replicate l.senders [])
