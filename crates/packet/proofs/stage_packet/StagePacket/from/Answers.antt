use Rattle.std.proofs.Common.{length, ap, ◌∙◌, arith}
use Rattle.packet.specs.Lines.{entries_of}
use Rattle.packet.proofs.Joins.{counts_each}
use Rattle.packet.proofs.stage_packet.StagePacket.from.Goals as goal

pub returns-clause-count : goal.returns-clause-count
returns-clause-count g c =
    let parts = c.self.inside.parts.value in
    let fewer = counts_each parts.from.items (entries_of parts.to) (entries_of parts.to) c.self.invariant.1.grows in
    omega (arith, fewer, ap (λ x. length x.to) c.self.view_is, ap length c.deref-2.ensures ∙ ap (λ p. length p.from.items) c.deref.ensures)
