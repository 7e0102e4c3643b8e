use Rattle.std.proofs.Common.{◌∙◌, ap, ap₂, length, arith}
use Rattle.linked_map.specs.Orders.{entries_at}
use Rattle.linked_map.proofs.Maps.{taken, taken_len}
use Rattle.linked_map.proofs.map.take_out.Goals as goal

pub returns-clause-entries : goal.returns-clause-entries
returns-clause-entries g c =
    let left = rw c.unwrap.ensures at c.swap_remove_index.ensures.entries in
    ap₂ entries_at left c.swap_remove.ensures
    ∙ taken c.args.map.now.entries c.args.ring.now c.len-len.ensures.order c.requires.len c.args.place c.requires.place c.unwrap.result

pub returns-clause-len : goal.returns-clause-len
returns-clause-len g c =
    let left = rw c.unwrap.ensures at c.swap_remove_index.ensures.len in
    let n = taken_len c.args.map.now.entries c.args.ring.now c.len-len.ensures.order c.requires.len c.args.place c.requires.place in
    ap length c.swap_remove.ensures ∙ omega (arith, n, left)
