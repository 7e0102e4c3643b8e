use Rattle.std.proofs.Common.{arith}
use Rattle.workers.proofs.Sent.{emptied}
use Rattle.workers.proofs.base_seat.send_rest.Goals as goal

pub returns-clause-clear : goal.returns-clause-clear
returns-clause-clear g c =
    let i = c.loop-stage.invariant in
    record { packets = emptied c.loop-stage.out.edges c.loop-stage.stage i.none (omega (arith, c.loop-stage-test.false, c.loop-stage.auto.stage-end, c.stages-stage-end.ensures, i.edges)); reply = i.reply }
