use Rattle.std.proofs.Common.{◌≡◌}
use Rattle.domain_turns.specs.Waits.{waiting_on}
use Rattle.domain_turns.proofs.Stepped.{up_to}
use Rattle.domain_turns.proofs.waits.Waits.ring.Given as goal

abbrev pub invariant-loop-session : goal.invariant-loop-session
invariant-loop-session g l = l.self ≡ up_to (waiting_on l.fn.domain.kept) l.session l.fn.self
