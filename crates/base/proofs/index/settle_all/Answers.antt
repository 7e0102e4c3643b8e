use Rattle.std.proofs.Common.{◌∷◌, length, rules, ◌<◌}
use Rattle.base.specs.Indexed.{IsIndex}
use Rattle.base.proofs.Indexes.{mixed_next, mixed_last}
use Rattle.base.proofs.index.settle_all.Goals as goal

pub loop-place-preserved : goal.loop-place-preserved
loop-place-preserved c =
    let row = c.args.row.now in
    let xs = c.loop-place.indexes.items in
    let below : c.loop-place.place < length xs = search rules in
    (λ rows h. mixed_next (IsIndex rows) (IsIndex (row ∷ rows)) xs c.loop-place.place c.index_mut.result.now c.settle.new.self below c.index_mut.ensures.value (c.settle.ensures rows) (c.loop-place.invariant.0 rows h), search rules)

pub returns : goal.returns
returns c rows h =
    mixed_last (IsIndex rows) (IsIndex (c.args.row.now ∷ rows)) c.loop-place.indexes.items c.loop-place.place (search rules) (c.loop-place.invariant.0 rows h)
