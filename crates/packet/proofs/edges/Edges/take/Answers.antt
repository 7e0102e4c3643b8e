use Rattle.std.proofs.Common.{[], slice_set, ap, ◌∙◌}
use Rattle.packet.specs.Outboxes.{packets_on}
use Rattle.packet.proofs.Rooms.{packets_set}
use Rattle.packet.proofs.edges.Edges.take.Goals as goal

pub returns-clause-rest : goal.returns-clause-rest
returns-clause-rest g c =
    packets_set c.self.inside.edges.items c.args.edge c.take.new.self
    ∙ (ap (λ ps. slice_set (packets_on c.self.inside.edges.items) c.args.edge ps) c.take.ensures.rest ∙ ap (λ es. slice_set (packets_on es) c.args.edge []) c.self.view_is)
