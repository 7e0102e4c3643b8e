use Rattle.std.proofs.Common.{◌<◌, refl, rules}
use Rattle.std.specs.HashMap.{spare, values}
use Rattle.base.proofs.Indexes.{indexes_alike}
use Rattle.base.proofs.Kept.{on_err, reordered_alike}
use Rattle.base.proofs.Stores.{stored_moved, stored_reordered, reordered_rows, shard_is}
use Rattle.base.proofs.shard.BaseShard.make_room.Goals as goal

pub invariant_of-self : goal.invariant_of-self
invariant_of-self c =
    let rows = c.self.inside.rows in
    let moved = c.reserve_one.new.self in (
      stored_moved c.self.inside.key_column rows moved c.self.inside.ready c.reserve_one.ensures.entries c.reserve_one.ensures.unique c.reserve_one.ensures.spare c.self.invariant.0,
      indexes_alike (values rows) (values moved) (reordered_alike rows moved c.reserve_one.ensures.entries) c.self.inside.indexes.items c.self.invariant.1,
    )

pub invariant_of-self-2 : goal.invariant_of-self-2
invariant_of-self-2 c =
    let more : 0 < spare c.reserve_one.new.self = search rules in (
      stored_reordered c.self.inside.key_column c.self.inside.rows c.reserve_one.new.self c.self.inside.ready _ c.reserve_one.ensures.entries c.reserve_one.ensures.unique more c.self.invariant.0,
      indexes_alike (values c.self.inside.rows) (values c.reserve_one.new.self) (reordered_alike c.self.inside.rows c.reserve_one.new.self c.reserve_one.ensures.entries) c.self.inside.indexes.items c.self.invariant.1,
    )

pub returns-clause-ok : goal.returns-clause-ok
returns-clause-ok c =
    rw (← c.self.view_is) (shard_is _ _ _ _ _ _ _ (reordered_rows c.self.inside.rows c.reserve_one.new.self c.reserve_one.ensures.entries) (search rules))

pub returns-in_err-map_err-clause-err : goal.returns-in_err-map_err-clause-err
returns-in_err-map_err-clause-err c =
    rw (← c.self.view_is) (on_err c.from_residual-in_err-map_err.result (shard_is _ _ _ _ _ _ _ (reordered_rows c.self.inside.rows c.reserve_one.new.self c.reserve_one.ensures.entries) refl))
