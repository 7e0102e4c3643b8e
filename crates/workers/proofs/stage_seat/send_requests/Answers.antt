use Rattle.std.proofs.Common.{arith}
use Rattle.workers.proofs.Sent.{emptied}
use Rattle.workers.proofs.stage_seat.send_requests.Goals as goal

pub returns-clause-none : goal.returns-clause-none
returns-clause-none g c =
    let i = c.loop-source.invariant in
    emptied c.loop-source.out.requests c.loop-source.source i.none (omega (arith, c.loop-source-test.false, c.loop-source.auto.source-end, c.sources-source-end.ensures, i.edges))
