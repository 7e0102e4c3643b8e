use Rattle.std.proofs.Common.{◌≡◌, take}
use Rattle.model.specs.Histories.{authors_of}
use Rattle.model.specs.Items.{history_of}
use Rattle.plain.proofs.logs.authors_of.Given as goal

abbrev pub invariant-loop-item : goal.invariant-loop-item
invariant-loop-item l = l.authors.items ≡ authors_of l.base (history_of (take l.item-index l.items))
