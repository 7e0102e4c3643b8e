use Rattle.std.proofs.Common.{◌<◌, length, ap, ◌∙◌, rules}
use Rattle.packet.specs.Outboxes.{EdgeView, packets_on}
use Rattle.packet.proofs.Rooms.{packets_same, one_more}
use Rattle.packet.proofs.edges.Edges.append.Goals as goal

pub returns-in_err-reserve-clause-err : goal.returns-in_err-reserve-clause-err
returns-in_err-reserve-clause-err g c =
    let edges = c.self.inside.edges.items in
    let lt : c.args.edge < length edges = search rules in
    let same = packets_same edges c.args.edge c.index_mut.result.now c.reserve.new.self lt (ap (λ (e : EdgeView _). e.packets) c.in_err-reserve.ensures.rest ∙ ap (λ (e : EdgeView _). e.packets) c.index_mut.ensures.value) ∙ ap packets_on c.self.view_is in
    search rules

pub returns-clause-packets : goal.returns-clause-packets
returns-clause-packets g c =
    let edges = c.self.inside.edges.items in
    let lt : c.args.edge < length edges = search rules in
    ap packets_on c.push.ensures
    ∙ one_more _ c.args.self.now c.args.edge c.args.packet
    (packets_same edges c.args.edge c.index_mut.result.now c.reserve.new.self lt (ap (λ (e : EdgeView _). e.packets) c.in_ok-reserve.ensures.rest ∙ ap (λ (e : EdgeView _). e.packets) c.index_mut.ensures.value) ∙ ap packets_on c.self.view_is)
