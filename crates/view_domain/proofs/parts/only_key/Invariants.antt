use Rattle.std.proofs.Common.{◌≡◌, take}
use Rattle.row.specs.Bags.{Each}
use Rattle.packet.specs.Messages.{KeyedRecord}
use Rattle.view_domain.proofs.parts.only_key.Given as goal

abbrev pub invariant-loop-keyed : goal.invariant-loop-keyed
invariant-loop-keyed l = Each (λ (c : KeyedRecord). c.key ≡ l.first.key) (take l.keyed-index l.changes)
