use Rattle.row.proofs.ValueMaps.{parted_moved, parted_same, whole_moved, whole_unique}
use Rattle.row.proofs.value_map.ValueMap.reserve_one.Goals as goal

pub returns-in_err-reserve_one-clause-unique : goal.returns-in_err-reserve_one-clause-unique
returns-in_err-reserve_one-clause-unique g c =
    let m = c.self.inside in
    whole_unique c.reserve_one.new.map m.others (parted_same m.numbers c.reserve_one.new.map m.others c.self.invariant c.reserve_one.ensures.unique c.in_err-reserve_one.ensures.err)

pub invariant_of-self-2 : goal.invariant_of-self-2
invariant_of-self-2 g c =
    let m = c.self.inside in
    parted_moved m.numbers c.reserve_one.new.map m.others c.reserve_one-2.new.map c.self.invariant c.reserve_one.ensures.entries c.reserve_one-2.ensures.entries c.reserve_one.ensures.unique c.reserve_one-2.ensures.unique

pub returns-clause-entries : goal.returns-clause-entries
returns-clause-entries g c =
    let m = c.self.inside in
    rw (← c.self.view_is) (whole_moved m.numbers c.reserve_one.new.map m.others c.reserve_one-2.new.map c.self.invariant c.reserve_one.ensures.entries c.reserve_one-2.ensures.entries (invariant_of-self-2 g c))

pub returns-clause-unique : goal.returns-clause-unique
returns-clause-unique g c = whole_unique c.reserve_one.new.map c.reserve_one-2.new.map (invariant_of-self-2 g c)
