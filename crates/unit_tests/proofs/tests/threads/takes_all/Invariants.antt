use Rattle.std.proofs.Common.{◌≡◌, length}
use Rattle.unit_tests.proofs.tests.threads.takes_all.Given as goal

abbrev pub invariant-loop : goal.invariant-loop
invariant-loop g l = length l.queues ≡ length l.fn.queues
