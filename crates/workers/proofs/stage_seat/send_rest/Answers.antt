use Rattle.std.proofs.Common.{arith}
use Rattle.workers.proofs.Sent.{emptied}
use Rattle.workers.proofs.stage_seat.send_rest.Goals as goal

pub returns-clause-none : goal.returns-clause-none
returns-clause-none g c =
    let i = c.loop-reader.invariant in
    emptied c.loop-reader.out.packets c.loop-reader.reader i.none (omega (arith, c.loop-reader-test.false, c.loop-reader.auto.reader-end, c.readers-reader-end.ensures, i.edges))
