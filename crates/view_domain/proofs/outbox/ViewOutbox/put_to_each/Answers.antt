use Rattle.view_domain.proofs.OutSteps.{always_err, edges_clear, still_silent}
use Rattle.view_domain.proofs.outbox.ViewOutbox.put_to_each.Goals as goal

pub returns-in_err-reserve-clause-err : goal.returns-in_err-reserve-clause-err
returns-in_err-reserve-clause-err g c =
    always_err c.from_residual.result (still_silent c.reserve.new.self c.self.inside.requests c.self.inside.shown c.self.inside.ack c.args.self.now c.self.view_is c.requires.clear c.in_err-reserve.ensures.packets)

pub send_to_each-requires-clause-clear : goal.send_to_each-requires-clause-clear
send_to_each-requires-clause-clear g c = edges_clear c.reserve.new.self c.self.inside.requests c.self.inside.shown c.self.inside.ack c.args.self.now c.self.view_is c.requires.clear c.in_ok-reserve.ensures.packets
