use Rattle.std.proofs.Common.{◌≡◌, length, take}
use Rattle.packet.proofs.Rooms.{AreClear}
use Rattle.packet.proofs.edges.Edges.clear.Given as goal

abbrev pub invariant-loop-edge : goal.invariant-loop-edge
invariant-loop-edge g l = record {
  length : length l.self-inside.edges.items ≡ length l.fn.self;
  clear : AreClear (take l.edge l.self-inside.edges.items);
}
