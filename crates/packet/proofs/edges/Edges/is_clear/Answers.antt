use Rattle.std.proofs.Common.{◌≡◌, ◌==◌, length, slice_index_or, ◌∙◌, rules}
use Rattle.packet.specs.Outboxes.{no_edge}
use Rattle.packet.proofs.Rooms.{clear_stays}
use Rattle.packet.proofs.edges.Edges.is_clear.Goals as goal

pub returns-in-Some-clause-same : goal.returns-in-Some-clause-same
returns-in-Some-clause-same g c = λ is.
    let here : (length (slice_index_or c.args.self.now c.args.edge no_edge).packets == 0) ≡ c.is_empty.result = search rules in
    clear_stays c.args.self.now c.args.edge (here ∙ is)
