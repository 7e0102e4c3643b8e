use Rattle.std.proofs.Common.{◌≡◌, []}
use Rattle.packet.specs.declared.mode.Mode.TheVariants.{Running}
use Rattle.shown.specs.Boards.{pending, shown}
use Rattle.domain_turns.specs.ViewTurns.{Shows}
use Rattle.workers.proofs.crew.serve_with_view.Given as goal

abbrev pub invariant-loop : goal.invariant-loop
invariant-loop g l = record {
  shows : l.seat.mode ≡ Running → Shows l.seat (shown l.writer);
  idle : l.seat.mode ≡ Running → pending l.writer ≡ [];
}
