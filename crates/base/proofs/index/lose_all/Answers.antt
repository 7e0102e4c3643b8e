use Rattle.std.proofs.Common.{◌∷◌, length, rules, ◌<◌}
use Rattle.base.specs.Indexed.{IsIndex}
use Rattle.base.proofs.Indexes.{mixed_next, mixed_at, mixed_last}
use Rattle.base.proofs.index.lose_all.Goals as goal

pub lose-requires : goal.lose-requires
lose-requires c =
    let row = c.args.row.now in
    let xs = c.loop-place.indexes.items in
    let below : c.loop-place.place < length xs = search rules in
    (c.requires.0, mixed_at (IsIndex (row ∷ c.requires.0)) (IsIndex c.requires.0) xs c.loop-place.place c.index_mut.result.now below c.index_mut.ensures.value (c.loop-place.invariant.0 c.requires.0 c.requires.1))

pub loop-place-preserved : goal.loop-place-preserved
loop-place-preserved c =
    let row = c.args.row.now in
    let xs = c.loop-place.indexes.items in
    let below : c.loop-place.place < length xs = search rules in
    (λ rows h. mixed_next (IsIndex (row ∷ rows)) (IsIndex rows) xs c.loop-place.place c.index_mut.result.now c.lose.new.self below c.index_mut.ensures.value (c.lose.ensures rows) (c.loop-place.invariant.0 rows h), search rules)

pub returns : goal.returns
returns c rows h =
    mixed_last (IsIndex (c.args.row.now ∷ rows)) (IsIndex rows) c.loop-place.indexes.items c.loop-place.place (search rules) (c.loop-place.invariant.0 rows h)
