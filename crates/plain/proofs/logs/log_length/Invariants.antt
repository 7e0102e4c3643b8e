use Rattle.std.proofs.Common.{◌≡◌, ◌≤◌, length, take}
use Rattle.model.specs.Histories.{log_of}
use Rattle.model.specs.Items.{history_of}
use Rattle.plain.proofs.logs.log_length.Given as goal

abbrev pub invariant-loop-item : goal.invariant-loop-item
invariant-loop-item l = record {
  count : l.count ≡ length (log_of l.base (history_of (take l.item-index l.items)));
  few : l.count ≤ l.item-index;
}
