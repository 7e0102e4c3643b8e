use Rattle.std.proofs.Common.{◌≡◌, length}
use Rattle.workers.proofs.view_seat.join_behind.Given as goal

abbrev pub invariant-loop : goal.invariant-loop
invariant-loop g l = record {
  same : l.packet ≡ record l.fn.packet { to = l.packet.to; changes = l.packet.changes };
  edges : length l.turns.waiting ≡ length l.fn.turns.waiting;
}
