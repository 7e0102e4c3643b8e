use Rattle.std.proofs.Common.{◌≡◌, length}
use Rattle.unit_tests.proofs.tests.inboxes.digits.Given as goal

abbrev pub invariant-loop : goal.invariant-loop
invariant-loop l = length l.queues ≡ length l.fn.queues
