use Rattle.std.proofs.Common.{◌≡◌, take, drop, length}
use Rattle.packet.specs.Outboxes.{packets_on}
use Rattle.protocol.specs.Edges.{pushed}
use Rattle.schedule.proofs.queues.Queues.push.Given as goal

abbrev pub invariant-loop-receiver : goal.invariant-loop-receiver
invariant-loop-receiver g l = record {
  queues : l.self ≡ pushed l.sender (take l.receiver (packets_on l.fn.out)) l.fn.self;
  rest : drop l.receiver (packets_on l.out) ≡ drop l.receiver (packets_on l.fn.out);
  count : length l.out ≡ length l.fn.out;
}
