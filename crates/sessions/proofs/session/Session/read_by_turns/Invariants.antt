use Rattle.std.proofs.Common.{◌<◌}
use Rattle.protocol.specs.Bases.{last_number}
use Rattle.sessions.specs.Reads.{HasLooked}
use Rattle.sessions.proofs.session.Session.read_by_turns.Given as goal

abbrev pub invariant-loop-turn : goal.invariant-loop-turn
invariant-loop-turn g l = record {
  looked : HasLooked l.fn.self l.self;
  number : l.self.number < last_number;
}
