use Rattle.std.proofs.Common.{◌≡◌, true, take}
use Rattle.row.specs.BagChanges.{with_gains}
use Rattle.row.proofs.RecordLoops.{picked}
use Rattle.key_rows.proofs.changed.ChangedRows.gain_all.Given as goal

abbrev pub invariant-loop-signed : goal.invariant-loop-signed
invariant-loop-signed l = l.self ≡ with_gains l.fn.self (picked (λ _. true) (take l.signed-index l.records))
