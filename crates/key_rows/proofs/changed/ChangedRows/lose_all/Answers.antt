use Rattle.std.proofs.Common.{refl, true, ◌∙◌}
use Rattle.row.proofs.RecordLoops.{loss_same, losses_done}
use Rattle.key_rows.proofs.changed.ChangedRows.lose_all.Goals as goal

pub loop-signed-preserved : goal.loop-signed-preserved
loop-signed-preserved c = rw c.in_ok-lose.ensures (loss_same (λ _. true) c.args.records.now c.loop-signed.signed-index c.signed-item.result c.loop-signed-test.true c.signed-item.is c.loop-signed.self ∙ c.loop-signed.invariant)

pub loop-signed-init : goal.loop-signed-init
loop-signed-init c = refl

pub returns : goal.returns
returns c = losses_done c.args.self.now c.loop-signed.self c.args.records.now c.loop-signed.signed-index c.loop-signed-test.false c.loop-signed.invariant
