use Rattle.std.proofs.Common.{◌<◌, length, length-set, ◌∙◌, rules}
use Rattle.packet.proofs.Rooms.{each_more, all_clear}
use Rattle.packet.proofs.edges.Edges.clear.Goals as goal

pub loop-edge-preserved : goal.loop-edge-preserved
loop-edge-preserved g c =
    let edges = c.loop-edge.self-inside.edges.items in
    let lt : c.loop-edge.edge < length edges = search rules in
    record {
      length = length-set edges c.loop-edge.edge c.clear.new.self ∙ c.loop-edge.invariant.length;
      clear = each_more _ edges c.loop-edge.edge c.clear.new.self lt c.loop-edge.invariant.clear c.clear.ensures;
    }

pub returns-clause-packets : goal.returns-clause-packets
returns-clause-packets g c =
    let edges = c.loop-edge.self-inside.edges.items in
    all_clear edges c.loop-edge.edge (search rules) c.loop-edge.invariant.clear
