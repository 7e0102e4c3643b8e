use Rattle.std.proofs.Common.{◌≡◌, length}
use Rattle.workers.proofs.base_seat.send_changes.Given as goal

abbrev pub invariant-loop-stage : goal.invariant-loop-stage
invariant-loop-stage g l = record {
  edges : length l.out.edges ≡ length l.fn.out.edges;
  reply : l.out.reply ≡ l.fn.out.reply;
}
