use Rattle.std.proofs.Common.{◌≡◌, None, length}
use Rattle.packet.specs.Outboxes.{packets_on}
use Rattle.links.proofs.Waiting.{AreEmpty}
use Rattle.workers.proofs.base_seat.send_rest.Given as goal

abbrev pub invariant-loop-stage : goal.invariant-loop-stage
invariant-loop-stage g l = record {
  none : AreEmpty (packets_on l.out.edges) 0 l.stage;
  edges : length l.out.edges ≡ length l.fn.out.edges;
  reply : l.out.reply ≡ None;
}
