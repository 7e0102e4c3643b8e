use Rattle.std.proofs.Common.{◌<◌, length, map, refl, Vec, Global}
use Rattle.std.specs.Vec.{with_item}
use Rattle.model.specs.Histories.{Lengths}
use Rattle.model.proofs.Lists.{set_in}
use Rattle.model.proofs.floors.Floors.set.Goals as goal

pub returns : goal.returns
returns c =
    let lists = λ (v : Vec Lengths Global). v.items in
    let rows = c.self.inside.rows.items in
    let row = c.index_mut.result.now in
    let there : c.args.view < length (map lists rows) = rw c.self.view_is c.requires.view in
    rw (← c.self.view_is) (set_in lists rows c.args.view c.args.shard c.args.cut row (with_item row c.args.shard c.args.cut) there c.index_mut.ensures.value refl)
