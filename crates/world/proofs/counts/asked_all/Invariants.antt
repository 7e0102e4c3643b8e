use Rattle.std.proofs.Common.{◌≡◌, map, take}
use Rattle.protocol.specs.WorldSteps.{asked_all}
use Rattle.machine.specs.Held.{view_node}
use Rattle.world.proofs.counts.asked_all.Given as goal

abbrev pub invariant-loop-domain : goal.invariant-loop-domain
invariant-loop-domain g l = record { total : l.total ≡ asked_all l.view (map view_node (take l.domain-index l.views)) }
