use Rattle.std.proofs.Common.{◌≡◌, length}
use Rattle.packet.specs.Outboxes.{packets_on}
use Rattle.links.proofs.Waiting.{AreEmpty}
use Rattle.workers.proofs.view_seat.send.Given as goal

abbrev pub invariant-loop-stage : goal.invariant-loop-stage
invariant-loop-stage g l = record {
  none : AreEmpty (packets_on l.out.requests) 0 l.stage-counter;
  rest : l.out ≡ record l.fn.out { requests = l.out.requests };
  edges : length l.out.requests ≡ length l.fn.out.requests;
}
