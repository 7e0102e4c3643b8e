use Rattle.machine.specs.Held.{Are}
use Rattle.world.specs.Listed.{authors_of, log_of}
use Rattle.machine.specs.Started.{IsFirst}
use Rattle.world.proofs.world.list_rights.Given as goal

abbrev pub invariant-loop-base : goal.invariant-loop-base
invariant-loop-base l = Are (IsFirst log_of authors_of l.plan) l.base l.rights.items
