use Rattle.std.proofs.Common.{◌≡◌, ◌∷◌, None, refl, sym, ◌∙◌}
use Rattle.std.specs.HashMap.{values}
use Rattle.std.specs.Map.{lookup}
use Rattle.row.specs.Groups.{equal}
use Rattle.base.proofs.Indexes.{indexes_alike}
use Rattle.base.proofs.Kept.{removed_alike, kept_alike}
use Rattle.base.proofs.Stores.{stored_deleted, deleted_rows, shard_is}
use Rattle.base.proofs.shard.BaseShard.remove.Goals as goal

pub lose_all-requires : goal.lose_all-requires
lose_all-requires c =
    let less = removed_alike (equal c.args.key.now) c.in-Some.row c.self.inside.rows.entries c.remove.new.self.entries (sym c.remove.ensures.value ∙ c.in-Some.is) c.remove.ensures.entries in
    (values c.remove.new.self, indexes_alike (values c.self.inside.rows) (c.in-Some.row ∷ values c.remove.new.self) less c.self.inside.indexes.items c.self.invariant.1)

pub invariant_of-self : goal.invariant_of-self
invariant_of-self c =
    let less = removed_alike (equal c.args.key.now) c.in-Some.row c.self.inside.rows.entries c.remove.new.self.entries (sym c.remove.ensures.value ∙ c.in-Some.is) c.remove.ensures.entries in (
      stored_deleted c.self.inside.key_column c.self.inside.rows c.remove.new.self c.args.key.now c.self.inside.ready c.remove.ensures.entries c.remove.ensures.unique c.remove.ensures.spare c.self.invariant.0,
      c.lose_all.ensures (values c.remove.new.self) (indexes_alike (values c.self.inside.rows) (c.in-Some.row ∷ values c.remove.new.self) less c.self.inside.indexes.items c.self.invariant.1),
    )

pub invariant_of-self-in_default : goal.invariant_of-self-in_default
invariant_of-self-in_default c =
    let none : lookup (equal c.args.key.now) c.self.inside.rows.entries ≡ None = sym c.remove.ensures.value ∙ c.in_default.is in
    let same = kept_alike (equal c.args.key.now) c.self.inside.rows.entries c.remove.new.self.entries none c.remove.ensures.entries in (
      stored_deleted c.self.inside.key_column c.self.inside.rows c.remove.new.self c.args.key.now c.self.inside.ready c.remove.ensures.entries c.remove.ensures.unique c.remove.ensures.spare c.self.invariant.0,
      indexes_alike (values c.self.inside.rows) (values c.remove.new.self) same c.self.inside.indexes.items c.self.invariant.1,
    )

pub returns-in-Some : goal.returns-in-Some
returns-in-Some c =
    rw (← c.self.view_is) (shard_is _ _ _ _ _ _ _ (deleted_rows c.self.inside.key_column c.args.key.now c.self.inside.rows.entries c.remove.new.self.entries c.self.invariant.0.keyed c.self.invariant.0.unique c.remove.ensures.entries) refl)

pub returns-in_default : goal.returns-in_default
returns-in_default c =
    rw (← c.self.view_is) (shard_is _ _ _ _ _ _ _ (deleted_rows c.self.inside.key_column c.args.key.now c.self.inside.rows.entries c.remove.new.self.entries c.self.invariant.0.keyed c.self.invariant.0.unique c.remove.ensures.entries) refl)
