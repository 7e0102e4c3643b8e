use Rattle.std.proofs.Common.{[], ◌+◌, ◌<◌, drop, length, length-set, ap, sym, ◌∙◌, arith}
use Rattle.std.proofs.lemmas.List.{length-map}
use Rattle.packet.specs.Outboxes.{EdgeView, packets_on}
use Rattle.schedule.proofs.Pushes.{pushed_more, next_same, rest_same, packets_at}
use Rattle.schedule.proofs.queues.Queues.push.Goals as goal

pub loop-receiver-preserved : goal.loop-receiver-preserved
loop-receiver-preserved g c =
    let i = c.loop-receiver.invariant in
    let n = c.loop-receiver.receiver in
    let out = c.loop-receiver.out in
    let lt : n < length (packets_on c.args.out) = omega (arith, c.loop-receiver-test.true, c.count-receiver-end.ensures, length-map c.args.out (λ (e : EdgeView g.row.P.Denot). e.packets)) in
    record {
      queues = pushed_more c.args.sender n (packets_on c.args.out) c.args.self.now c.loop-receiver.self c.append.new.self c.take-more.result.items lt i.queues (c.take-more.ensures.packets ∙ packets_at out n ∙ next_same (packets_on out) (packets_on c.args.out) n [] i.rest) c.in_ok-append.ensures;
      rest = ap (drop (n + 1)) c.take-more.ensures.rest ∙ rest_same (packets_on out) (packets_on c.args.out) n [] i.rest;
      count = sym (length-map c.take-more.new.self (λ (e : EdgeView g.row.P.Denot). e.packets)) ∙ ap length c.take-more.ensures.rest ∙ length-set (packets_on out) n [] ∙ length-map out (λ (e : EdgeView g.row.P.Denot). e.packets) ∙ i.count;
    }
