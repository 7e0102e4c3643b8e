use Rattle.std.proofs.Common.{◌<◌, length, ap, ◌∙◌, rules}
use Rattle.packet.specs.Outboxes.{EdgeView, packets_on}
use Rattle.packet.proofs.Rooms.{packets_same}
use Rattle.packet.proofs.edges.Edges.keep_room.Goals as goal

pub returns : goal.returns
returns g c =
    let edges = c.self.inside.edges.items in
    let lt : c.args.edge < length edges = search rules in
    record {
      packets = packets_same edges c.args.edge c.index_mut.result.now c.keep_room.new.self lt (c.keep_room.ensures ∙ ap (λ (e : EdgeView _). e.packets) c.index_mut.ensures.value) ∙ ap packets_on c.self.view_is;
    }
