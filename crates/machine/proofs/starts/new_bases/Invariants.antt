use Rattle.std.proofs.Common.{◌≡◌, ◌≤◌, drop, length}
use Rattle.machine.specs.Held.{Are}
use Rattle.machine.specs.Started.{IsNewBase}
use Rattle.machine.proofs.starts.new_bases.Given as goal

abbrev pub invariant-loop-right : goal.invariant-loop-right
invariant-loop-right g l = record {
  left : drop l.base l.fn.rights.items ≡ l.right-iterator.rest.items;
  within : l.base ≤ length l.fn.rights.items;
  made : Are (IsNewBase g.F.Fronts.log g.F.Fronts.authors l.plan) l.base l.bases.items;
}
