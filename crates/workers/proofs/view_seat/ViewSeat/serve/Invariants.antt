use Rattle.std.proofs.Common.{◌≡◌, []}
use Rattle.packet.specs.declared.mode.Mode.TheVariants.{Running}
use Rattle.shown.specs.Boards.{pending, shown}
use Rattle.domain_turns.specs.ViewTurns.{Shows}
use Rattle.workers.proofs.view_seat.ViewSeat.serve.Given as goal

abbrev pub invariant-loop : goal.invariant-loop
invariant-loop g l = record {
  shows : l.self.mode ≡ Running → Shows l.self (shown l.writer);
  idle : l.self.mode ≡ Running → pending l.writer ≡ [];
}
