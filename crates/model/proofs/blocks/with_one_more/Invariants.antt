use Rattle.std.proofs.Common.{◌≡◌, ◌≤◌, length, take}
use Rattle.model.specs.Blocks.{values_of}
use Rattle.model.proofs.blocks.with_one_more.Given as goal

abbrev pub invariant-loop-shared : goal.invariant-loop-shared
invariant-loop-shared g l = record {
  items : l.shared-items ≡ l.fn.items.items;
  within : l.shared-index ≤ length l.shared-items;
  values : values_of l.more.items ≡ values_of (take l.shared-index l.shared-items);
}
