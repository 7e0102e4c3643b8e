use Rattle.std.proofs.Common.{◌≡◌, Some, None, map}
use Rattle.std.specs.List.{range_with_len}
use Rattle.packet.specs.Codes.{mark_of}
use Rattle.protocol.specs.BaseSteps.{still}
use Rattle.base_domain.specs.Received.{base_at}
use Rattle.base_domain.proofs.base_domain.BaseDomain.markers.Given as goal

abbrev pub invariant-loop-stage : goal.invariant-loop-stage
invariant-loop-stage g l = l.packets.items ≡ map (λ s. still (base_at g.F.Fronts.log g.F.Fronts.authors l.fn.self) s None (Some (mark_of l.mark))) (range_with_len 0 l.stage)
