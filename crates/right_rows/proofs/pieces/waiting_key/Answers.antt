use Rattle.std.proofs.Common.{◌∙◌, ap, sym, Some}
use Rattle.right_rows.proofs.Taken.{waits_not, waits_own}
use Rattle.right_rows.proofs.pieces.waiting_key.Goals as goal

pub returns-then-not-waits : goal.returns-then-not-waits
returns-then-not-waits c = waits_not c.args.column c.args.row.now c.args.kept.now c.value-key.result.now (ap Some c.value-key.ensures ∙ c.in-Some.ensures) (sym c.waits.ensures ∙ c.if-not-waits.true)

pub returns : goal.returns
returns c = waits_own c.args.column c.args.row.now c.args.kept.now c.value-key.result.now (ap Some c.value-key.ensures ∙ c.in-Some.ensures) (sym c.waits.ensures ∙ c.if-not-waits.false) c.in_ok-try_clone.field-0 c.in_ok-try_clone.ensures
