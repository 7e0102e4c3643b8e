use Rattle.std.proofs.Common.{◌∷◌, ap, sym, ◌∙◌}
use Rattle.std.specs.HashMap.{values}
use Rattle.std.specs.Option.{option_map}
use Rattle.row.specs.Cells.{datum_of}
use Rattle.row.specs.ValueMaps.{kept_key}
use Rattle.row.proofs.ValueMaps.{kept_is}
use Rattle.base.proofs.Indexes.{indexes_alike}
use Rattle.base.proofs.Kept.{inserted_alike}
use Rattle.base.proofs.Stores.{absent_lookup, ready_is, stored_inserted, inserted_rows, shard_is}
use Rattle.base.proofs.shard.BaseShard.insert.Goals as goal

pub put-requires-clause-absent : goal.put-requires-clause-absent
put-requires-clause-absent c =
    let is = sym c.take.ensures.value ∙ c.in-Some.is in
    absent_lookup c.self.inside.key_column c.in-Some.key _ c.self.inside.rows.entries c.self.invariant.0.keyed
    (ready_is c.self.inside.ready c.in-Some.key _ is (rw (← c.self.view_is) at c.requires.room)) (rw (← c.self.view_is) at c.requires.absent)

pub invariant_of-self : goal.invariant_of-self
invariant_of-self c =
    let is = sym c.take.ensures.value ∙ c.in-Some.is in (
      stored_inserted c.self.inside.key_column c.self.inside.rows c.put.new.rows (kept_key c.in-Some.key) c.args.row c.self.inside.ready c.take.new.self c.put.ensures.entries c.put.ensures.unique
          (rw (← c.self.view_is) at c.requires.key) (kept_is c.in-Some.key ∙ ready_is c.self.inside.ready c.in-Some.key _ is (rw (← c.self.view_is) at c.requires.room)) c.self.invariant.0 c.take.ensures.after,
      indexes_alike (c.args.row ∷ values c.self.inside.rows) (values c.put.new.rows) (inserted_alike (kept_key c.in-Some.key) c.args.row c.self.inside.rows.entries c.put.new.rows.entries c.put.ensures.entries) c.settle_all.new.indexes.items
          (c.settle_all.ensures (values c.self.inside.rows) c.self.invariant.1),
    )

pub returns-in-Some : goal.returns-in-Some
returns-in-Some c =
    rw (← c.self.view_is) (shard_is _ _ _ _ _ _ _ (inserted_rows c.self.inside.key_column (kept_key c.in-Some.key) c.args.row c.self.inside.rows.entries c.put.new.rows.entries c.put.ensures.entries) (ap (option_map datum_of) c.take.ensures.after))
