use Rattle.std.proofs.Common.{ap, ◌∙◌, ◌++◌}
use Rattle.packet.specs.Codes.{mark_in}
use Rattle.packet.proofs.Joins.{base_joined, base_holds}
use Rattle.packet.proofs.base_packet.BasePacket.join.Goals as goal

pub invariant_of-self : goal.invariant_of-self
invariant_of-self g c = rw (c.in_err-append.ensures.err) c.self.invariant

pub invariant_of-self-2 : goal.invariant_of-self-2
invariant_of-self-2 g c = base_holds c.args.self.now c.args.next c.self.inside.stage c.self.inside.from (g.F.Fronts.log c.self.inside.to) (g.F.Fronts.log c.into_parts-to.result.0) c.self.inside.changes.items c.append.new.all.items c.self.inside.piece (mark_in c.self.inside.marker) c.requires c.into_parts-to.ensures.truth c.into_parts-to.ensures.to (c.in_ok-append.ensures.ok ∙ ap (λ l. c.self.inside.changes.items ++ l) c.into_parts-to.ensures.changes) c.self.invariant c.self.view_is

pub returns-clause-ok : goal.returns-clause-ok
returns-clause-ok g c = base_joined c.args.self.now c.args.next c.self.inside.stage c.self.inside.from (g.F.Fronts.log c.self.inside.to) (g.F.Fronts.log c.into_parts-to.result.0) c.self.inside.changes.items c.append.new.all.items c.self.inside.piece (mark_in c.self.inside.marker) c.requires c.into_parts-to.ensures.truth c.into_parts-to.ensures.to (c.in_ok-append.ensures.ok ∙ ap (λ l. c.self.inside.changes.items ++ l) c.into_parts-to.ensures.changes) c.self.invariant.0 c.self.view_is
