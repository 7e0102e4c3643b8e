use Rattle.std.proofs.Common.{◌≡◌, ◌*◌, ◌≤◌}
use Rattle.model.specs.Places.{shards_before}
use Rattle.model.proofs.places.shards_before.Given as goal

abbrev pub invariant-loop-place : goal.invariant-loop-place
invariant-loop-place l = record {
  count : l.count ≡ shards_before l.plan.tables l.place;
  few : l.count ≤ 8 * l.place;
}
