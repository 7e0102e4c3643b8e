use Rattle.std.proofs.Common.{◌≡◌, length}
use Rattle.packet.specs.Messages.{none_of}
use Rattle.packet.specs.Outboxes.{packets_on}
use Rattle.packet.proofs.edges.Edges.new.Given as goal

abbrev pub invariant-loop : goal.invariant-loop
invariant-loop g l = record {
  clear : packets_on l.edges.items ≡ none_of l.edges.items;
  length : length l.edges.items ≡ l.counter;
}
