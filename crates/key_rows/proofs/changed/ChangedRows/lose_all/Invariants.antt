use Rattle.std.proofs.Common.{◌≡◌, true, drop}
use Rattle.row.specs.BagChanges.{with_losses}
use Rattle.row.proofs.RecordLoops.{picked}
use Rattle.key_rows.proofs.changed.ChangedRows.lose_all.Given as goal

abbrev pub invariant-loop-signed : goal.invariant-loop-signed
invariant-loop-signed l = with_losses l.self (picked (λ _. true) (drop l.signed-index l.records)) ≡ with_losses l.fn.self (picked (λ _. true) l.records)
