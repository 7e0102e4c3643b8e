use Rattle.std.proofs.Common.{Some, None, length, sym, ◌∙◌, ap, rules}
use Rattle.std.proofs.lemmas.List.FromFn.{length-map-range_with_len}
use Rattle.packet.specs.Codes.{mark_of}
use Rattle.protocol.specs.BaseSteps.{still}
use Rattle.base_domain.specs.Received.{base_at}
use Rattle.packet.proofs.Sends.{same_count, still_clear, each_one}
use Rattle.base_domain.proofs.base_domain.BaseDomain.send_marker.Goals as goal

pub returns-in_err-reserve-clause-unsent : goal.returns-in_err-reserve-clause-unsent
returns-in_err-reserve-clause-unsent g c =
    let clear = still_clear c.reserve.new.self.edges c.args.out.now.edges c.in_err-reserve.ensures.packets c.requires.clear in
    search rules

pub send_to_each-requires-clause-clear : goal.send_to_each-requires-clause-clear
send_to_each-requires-clause-clear g c = still_clear c.reserve.new.self.edges c.args.out.now.edges c.in_ok-reserve.ensures.packets c.requires.clear

pub send_to_each-requires-clause-count : goal.send_to_each-requires-clause-count
send_to_each-requires-clause-count g c =
    ap length c.in-Ok.ensures ∙ length-map-range_with_len (λ s. still (base_at g.F.Fronts.log g.F.Fronts.authors c.args.self.now) s None (Some (mark_of c.args.mark))) 0 _ ∙ sym (same_count c.reserve.new.self.edges c.args.out.now.edges c.in_ok-reserve.ensures.packets ∙ c.requires.edges)

pub returns-clause-sent : goal.returns-clause-sent
returns-clause-sent g c =
    c.send_to_each.ensures.sent ∙ each_one (λ s. still (base_at g.F.Fronts.log g.F.Fronts.authors c.args.self.now) s None (Some (mark_of c.args.mark))) _ c.in-Ok.packets.items c.in-Ok.ensures
