use Rattle.std.proofs.Common.{true, [], ◌∷◌, sym, ◌∙◌, ap}
use Rattle.row.specs.BagChanges.{with_gains}
use Rattle.row.proofs.RecordLoops.{gains_next, gains_done}
use Rattle.key_rows.proofs.changed.ChangedRows.gain_all.Goals as goal

pub loop-signed-preserved : goal.loop-signed-preserved
loop-signed-preserved c =
    let r = c.signed-item.result in
    c.in_ok-gain.ensures
    ∙ (ap (λ l. with_gains l (r ∷ [])) c.loop-signed.invariant
    ∙ sym (gains_next (λ _. true) c.args.records.now c.loop-signed.signed-index r c.loop-signed-test.true c.signed-item.is c.args.self.now))

pub returns : goal.returns
returns c = gains_done c.args.self.now c.loop-signed.self c.args.records.now c.loop-signed.signed-index c.loop-signed-test.false c.loop-signed.invariant
