use Rattle.std.proofs.Common.{List, ◌∷◌, Some, refl, ap, sym, subst, ◌∙◌}
use Rattle.std.specs.HashMap.{values}
use Rattle.std.specs.Map.{values_of, set_value}
use Rattle.std.specs.Option.{option_copied_mut}
use Rattle.row.specs.Cells.{datum_of}
use Rattle.row.specs.Groups.{equal}
use Rattle.row.specs.declared.row.Row.{Row}
use Rattle.base.specs.Indexed.{AreIndexes}
use Rattle.base.specs.Stored.{IsStored}
use Rattle.base.proofs.Indexes.{indexes_alike}
use Rattle.base.proofs.Kept.{updated_alike}
use Rattle.base.proofs.Stores.{own_cell, place_there, stored_updated, updated_rows, shard_is}
use Rattle.base.proofs.shard.BaseShard.replace.Goals as goal
use Rattle.base.proofs.shard.BaseShard.replace.Goals.{After-replace-old}

pub unwrap-place-requires : goal.unwrap-place-requires
unwrap-place-requires c =
    let own = own_cell c.args.row c.self.inside.key_column (datum_of c.value.result.now) (rw (← c.self.view_is) at c.requires.key) (c.cell-key.ensures ∙ ap Some (sym c.value.ensures)) in
    place_there c.self.inside.key_column c.value.result.now _ c.self.inside.rows.entries c.self.invariant.0.keyed own (rw (← c.self.view_is) at c.requires.held) c.get_mut.result c.get_mut.ensures.value

-- the rows, with this one in the place of the one of its key
abbrev put : After-replace-old → List Row
put c = values_of (set_value (equal c.value.result.now) c.self.inside.rows.entries c.args.row)

-- the indexes have these rows, and the one that goes
both_indexed : (c : After-replace-old) → AreIndexes (c.replace-old.result ∷ put c) c.settle_all.new.indexes.items
both_indexed c =
    let v = c.value.result.now in
    let es = c.self.inside.rows.entries in
    let there = sym c.get_mut.ensures.value ∙ (ap option_copied_mut c.unwrap-place.ensures ∙ ap Some (sym c.replace-old.ensures.value)) in
    let like = updated_alike (equal v) c.replace-old.result c.args.row es there in
    indexes_alike (c.args.row ∷ values_of es) (c.replace-old.result ∷ put c) like c.settle_all.new.indexes.items (c.settle_all.ensures (values_of es) c.self.invariant.1)

pub lose_all-requires : goal.lose_all-requires
lose_all-requires c = let at = (goal.at.lose_all-requires c).After-replace-old in (put at, both_indexed at)

pub invariant_of-self : goal.invariant_of-self
invariant_of-self c =
    let at = (goal.at.invariant_of-self c).After-replace-old in
    let kept = c.lose_all.ensures (put at) (both_indexed at) in
    let indexes = c.lose_all.new.indexes.items in
    let now = c.get_mut.follows.lender in
    subst (λ r. IsStored c.self.inside.key_column (now r) c.self.inside.ready × AreIndexes (values (now r)) indexes) (sym c.replace-old.ensures.after) (
      stored_updated c.self.inside.key_column c.self.inside.rows (now c.args.row) c.value.result.now c.args.row c.self.inside.ready (c.get_mut.follows.holds c.args.row) (c.cell-key.ensures ∙ ap Some (sym c.value.ensures)) c.self.invariant.0,
      subst (λ l. AreIndexes (values_of l) indexes) (sym (c.get_mut.follows.holds c.args.row).entries) kept,
    )

pub returns : goal.returns
returns c =
    let own = own_cell c.args.row c.self.inside.key_column (datum_of c.value.result.now) (rw (← c.self.view_is) at c.requires.key) (c.cell-key.ensures ∙ ap Some (sym c.value.ensures)) in
    rw (← c.self.view_is, c.replace-old.ensures.after) (shard_is _ _ _ _ _ _ _
    (updated_rows c.self.inside.key_column c.value.result.now c.args.row c.self.inside.rows.entries (c.get_mut.follows.lender c.args.row).entries c.self.invariant.0.keyed c.self.invariant.0.unique own (c.get_mut.follows.holds c.args.row).entries) refl)
