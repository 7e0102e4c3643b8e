use Rattle.std.proofs.Common.{◌≡◌, map, take}
use Rattle.model.specs.Logs.{rows_of}
use Rattle.model.specs.Entries.{change_of}
use Rattle.plain.proofs.rows.rows_of.Given as goal

abbrev pub invariant-loop-entry : goal.invariant-loop-entry
invariant-loop-entry l = l.rows.items ≡ rows_of l.key (map change_of (take l.entry-index l.entry-items))
