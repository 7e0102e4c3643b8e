use Rattle.std.proofs.Common.{◌≡◌, map, take}
use Rattle.domain_turns.specs.BaseTurns.{log_in}
use Rattle.packet.specs.Lines.{empty_log}
use Rattle.domain_turns.proofs.fresh.empty_line.Given as goal

abbrev pub invariant-loop-base : goal.invariant-loop-base
invariant-loop-base g l = record { logs : map (log_in g.J.Naming.plan) l.fronts.items ≡ map (empty_log g.J.Naming.plan) (take l.base-index l.sources) }
