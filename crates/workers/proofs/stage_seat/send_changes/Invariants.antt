use Rattle.std.proofs.Common.{◌≡◌, length}
use Rattle.workers.proofs.stage_seat.send_changes.Given as goal

abbrev pub invariant-loop-reader : goal.invariant-loop-reader
invariant-loop-reader g l = record {
  rest : l.out ≡ record l.fn.out { packets = l.out.packets };
  edges : length l.out.packets ≡ length l.fn.out.packets;
}
