use Rattle.std.proofs.Common.{◌≡◌, fold}
use Rattle.shown.specs.Boards.{shown, state}
use Rattle.shown.specs.Sights.{ahead}
use Rattle.shown.specs.Snapshots.{with_change}
use Rattle.shown.proofs.writer.ShownWriter+J+R.append_keys.Given as goal

abbrev pub invariant-loop-key : goal.invariant-loop-key
invariant-loop-key g l = record {
  ahead : ahead (state l.self) ≡ record (ahead (state l.fn.self)) { rows = fold with_change (ahead (state l.fn.self)).rows l.yielded };
  shown : shown l.self ≡ shown l.fn.self;
}
