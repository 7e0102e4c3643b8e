use Rattle.std.proofs.Common.{◌<◌, length, length-set, ap, ◌∙◌, rules}
use Rattle.packet.specs.Outboxes.{EdgeView}
use Rattle.packet.proofs.Rooms.{packets_same, room_more}
use Rattle.packet.proofs.edges.Edges.reserve.Goals as goal

pub returns-in_err-reserve-clause-packets : goal.returns-in_err-reserve-clause-packets
returns-in_err-reserve-clause-packets g c =
    let edges = c.loop-at.self-inside.edges.items in
    let lt : c.loop-at.at < length edges = search rules in
    packets_same edges c.loop-at.at c.index_mut.result.now c.reserve.new.self lt (ap (λ (e : EdgeView _). e.packets) c.in_err-reserve.ensures.rest ∙ ap (λ (e : EdgeView _). e.packets) c.index_mut.ensures.value) ∙ c.loop-at.invariant.packets

pub loop-at-preserved : goal.loop-at-preserved
loop-at-preserved g c =
    let edges = c.loop-at.self-inside.edges.items in
    let lt : c.loop-at.at < length edges = search rules in
    record {
      packets = packets_same edges c.loop-at.at c.index_mut.result.now c.reserve.new.self lt (ap (λ (e : EdgeView _). e.packets) c.in_ok-reserve.ensures.rest ∙ ap (λ (e : EdgeView _). e.packets) c.index_mut.ensures.value) ∙ c.loop-at.invariant.packets;
      length = length-set edges c.loop-at.at c.reserve.new.self ∙ c.loop-at.invariant.length;
      room = room_more edges c.loop-at.at c.reserve.new.self lt c.loop-at.invariant.room c.in_ok-reserve.ensures.room;
    }
