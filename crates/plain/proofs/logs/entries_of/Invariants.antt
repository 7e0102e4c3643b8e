use Rattle.std.proofs.Common.{◌≡◌, map, take}
use Rattle.model.specs.Entries.{change_of}
use Rattle.model.specs.Histories.{log_of}
use Rattle.model.specs.Items.{history_of}
use Rattle.plain.proofs.logs.entries_of.Given as goal

abbrev pub invariant-loop-item : goal.invariant-loop-item
invariant-loop-item l = map change_of l.entries.items ≡ log_of l.base (history_of (take l.item-index l.items))
