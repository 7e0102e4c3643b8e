use Rattle.std.proofs.Common.{arith}
use Rattle.workers.proofs.Sent.{emptied}
use Rattle.workers.proofs.view_seat.send.Goals as goal

pub returns-clause-none : goal.returns-clause-none
returns-clause-none g c =
    let i = c.loop-stage.invariant in
    emptied c.loop-stage.out.requests c.loop-stage.stage-counter i.none (omega (arith, c.loop-stage-test.false, i.edges, c.requires))
