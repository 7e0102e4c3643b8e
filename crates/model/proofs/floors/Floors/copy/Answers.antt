use Rattle.std.proofs.Common.{◌<◌, ◌≡◌, [], length, map, refl, ap, ◌∙◌, slice_index_or, Vec, Global}
use Rattle.std.proofs.lemmas.List.{length-map}
use Rattle.std.specs.Vec.{with_item}
use Rattle.model.specs.Histories.{Lengths, floor_at}
use Rattle.model.specs.Tables.{with_floor}
use Rattle.model.proofs.Lists.{any_end, read_map, set_in}
use Rattle.model.proofs.floors.Floors.copy.Goals as goal

pub overwrite-requires : goal.overwrite-requires
overwrite-requires c =
    let lists = λ (v : Vec Lengths Global). v.items in
    let rows = c.self.inside.rows.items in
    let row = c.index_mut.result.now in
    let floor = c.index_mut-in-None.result.now in
    let room : map length (floor_at c.args.self.now c.args.view c.args.shard) ≡ map length c.args.cut.now = rw c.in-None.is at c.requires.room in
    let in_map : c.args.view < length (map lists rows) = rw c.self.view_is c.requires.view in
    let there : c.args.view < length rows = rw (length-map rows lists) at in_map in
    let own : row.items ≡ slice_index_or c.args.self.now c.args.view [] = rw (← c.self.view_is) (read_map lists rows c.args.view row [] there c.index_mut.ensures.value) in
    let in_row : c.args.shard < length row.items = rw own c.requires.shard in
    let same : floor ≡ floor_at c.args.self.now c.args.view c.args.shard = c.index_mut-in-None.ensures.value ∙ (any_end row.items c.args.shard floor [] in_row ∙ ap (λ (fs : _). slice_index_or fs c.args.shard []) own) in
    ap (map length) same ∙ room

pub returns-in-Some : goal.returns-in-Some
returns-in-Some c =
    let same : c.in-Some.room ≡ c.args.cut.now = rw c.in-Some.is at c.requires.room in
    c.set.ensures ∙ ap (λ cut. with_floor c.args.self.now c.args.view c.args.shard cut) same

pub returns-in-None : goal.returns-in-None
returns-in-None c =
    let lists = λ (v : Vec Lengths Global). v.items in
    let rows = c.self.inside.rows.items in
    let row = c.index_mut.result.now in
    let there : c.args.view < length (map lists rows) = rw c.self.view_is c.requires.view in
    rw (← c.self.view_is, c.overwrite.ensures) (set_in lists rows c.args.view c.args.shard c.args.cut.now row (with_item row c.args.shard c.args.cut.now) there c.index_mut.ensures.value refl)
