use Rattle.std.proofs.Common.{sym}
use Rattle.row.proofs.ValueMaps.{values_both}
use Rattle.row.proofs.value_map.ValueMap.values.Goals as goal

pub returns : goal.returns
returns g c =
    let m = c.self.inside in
    rw (← c.self.view_is, c.values.ensures.rest, c.values-2.ensures.rest) (sym (values_both m.numbers.entries m.others.entries))
