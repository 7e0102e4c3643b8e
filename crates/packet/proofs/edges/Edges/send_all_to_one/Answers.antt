use Rattle.std.proofs.Common.{◌∙◌, ap, length}
use Rattle.packet.specs.Messages.{to_one}
use Rattle.packet.proofs.Sends.{all_sent}
use Rattle.packet.proofs.edges.Edges.send_all_to_one.Goals as goal

pub returns-clause-sent : goal.returns-clause-sent
returns-clause-sent g c = rw (← c.self.view_is)
    (all_sent c.fill.new.self c.self.inside.edges.items c.args.edge (rw (← c.self.view_is) at c.requires.edge) (rw (← c.self.view_is) at c.requires.clear) ∙ ap (to_one (length c.self.inside.edges.items) c.args.edge) c.fill.ensures)
