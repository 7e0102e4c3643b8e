use Rattle.std.proofs.Common.{◌≡◌, length}
use Rattle.packet.specs.Outboxes.{packets_on}
use Rattle.links.proofs.Waiting.{AreEmpty}
use Rattle.workers.proofs.stage_seat.send_rest.Given as goal

abbrev pub invariant-loop-reader : goal.invariant-loop-reader
invariant-loop-reader g l = record {
  none : AreEmpty (packets_on l.out.packets) 0 l.reader;
  rest : l.out ≡ record l.fn.out { packets = l.out.packets };
  edges : length l.out.packets ≡ length l.fn.out.packets;
}
