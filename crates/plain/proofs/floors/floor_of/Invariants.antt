use Rattle.std.proofs.Common.{◌≡◌, take}
use Rattle.model.specs.Histories.{floor_of}
use Rattle.model.specs.Items.{history_of}
use Rattle.plain.proofs.floors.floor_of.Given as goal

abbrev pub invariant-loop-item : goal.invariant-loop-item
invariant-loop-item l = l.floor ≡ floor_of l.plan l.session l.view l.shard (history_of (take l.item-index l.items))
