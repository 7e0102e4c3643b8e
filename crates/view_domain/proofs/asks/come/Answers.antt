use Rattle.std.proofs.Common.{sym}
use Rattle.view_domain.proofs.AskSteps.{none_come}
use Rattle.view_domain.proofs.asks.come.Goals as goal

pub returns-in-None-clause-marks : goal.returns-in-None-clause-marks
returns-in-None-clause-marks c = rw c.in-None.is (λ i. record { senders = c.args.marks.now.senders; waiting = (sym (none_come c.args.marks.now.waiting c.requires.waiting)) i })
