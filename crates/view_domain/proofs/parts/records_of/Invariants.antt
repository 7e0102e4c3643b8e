use Rattle.std.proofs.Common.{◌≡◌, map}
use Rattle.packet.specs.Messages.{KeyedRecord}
use Rattle.view_domain.proofs.parts.records_of.Given as goal

abbrev pub invariant-loop-keyed : goal.invariant-loop-keyed
invariant-loop-keyed l = l.group ≡ map (λ (c : KeyedRecord). c.change) l.yielded
