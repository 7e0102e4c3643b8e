use Rattle.std.proofs.Common.{◌∷◌, ◌<◌, [], sym, ◌∙◌, ap, subst, rules}
use Rattle.packet.specs.Messages.{to_one}
use Rattle.packet.specs.Outboxes.{packets_on}
use Rattle.packet.proofs.Sends.{one_sent, same_count, still_clear}
use Rattle.packet.proofs.edges.Edges.send_to_one.Goals as goal

pub returns-in_err-reserve-clause-unsent : goal.returns-in_err-reserve-clause-unsent
returns-in_err-reserve-clause-unsent g c =
    let clear = still_clear c.reserve.new.self c.args.self.now c.in_err-reserve.ensures.packets c.requires.clear in
    search rules

pub returns-clause-sent : goal.returns-clause-sent
returns-clause-sent g c =
    let edges = c.reserve.new.self in
    let was = c.args.self.now in
    let same = c.in_ok-reserve.ensures.packets in
    let n = same_count edges was same in
    let clear = still_clear edges was same c.requires.clear in
    let lt = subst (λ k. c.args.edge < k) (sym n) c.requires.edge in
    ap packets_on c.push.ensures ∙ one_sent c.args.packet edges c.args.edge lt clear ∙ ap (λ k. to_one k c.args.edge (c.args.packet ∷ [])) n
