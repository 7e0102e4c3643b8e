use Rattle.std.proofs.Common.{◌≡◌, length, take}
use Rattle.packet.specs.Outboxes.{HaveRoom, packets_on}
use Rattle.packet.proofs.edges.Edges.reserve.Given as goal

abbrev pub invariant-loop-at : goal.invariant-loop-at
invariant-loop-at g l = record {
  packets : packets_on l.self-inside.edges.items ≡ packets_on l.fn.self;
  length : length l.self-inside.edges.items ≡ length l.fn.self;
  room : HaveRoom (take l.at l.self-inside.edges.items);
}
