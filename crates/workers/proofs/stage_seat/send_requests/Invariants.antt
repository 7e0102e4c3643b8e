use Rattle.std.proofs.Common.{◌≡◌, length}
use Rattle.packet.specs.Outboxes.{packets_on}
use Rattle.links.proofs.Waiting.{AreEmpty}
use Rattle.workers.proofs.stage_seat.send_requests.Given as goal

abbrev pub invariant-loop-source : goal.invariant-loop-source
invariant-loop-source g l = record {
  none : AreEmpty (packets_on l.out.requests) 0 l.source;
  rest : l.out ≡ record l.fn.out { requests = l.out.requests };
  edges : length l.out.requests ≡ length l.fn.out.requests;
}
