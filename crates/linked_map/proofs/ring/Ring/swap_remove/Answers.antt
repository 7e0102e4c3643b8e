use Rattle.std.proofs.Common.{◌-◌, ap, length, arith}
use Rattle.linked_map.specs.Rings.{older_at, newer_at}
use Rattle.linked_map.proofs.Links.{length-parted, length-told_or_same}
use Rattle.linked_map.proofs.Rings.{count, older_in, newer_in, parted_older_in, parted_newer_in, removed_at}
use Rattle.linked_map.proofs.ring.Ring.swap_remove.Goals as goal

pub latest_without-latest-requires : goal.latest_without-latest-requires
latest_without-latest-requires c =
    let h = rw (← c.self.view_is) at c.requires in
    let n = count c.self.inside.links.items c.self.inside.latest c.self.invariant in
    omega (arith, h, n)

pub overflow_cast-to : goal.overflow_cast-to
overflow_cast-to c =
    let h = rw (← c.self.view_is) at c.requires in
    let n = count c.self.inside.links.items c.self.inside.latest c.self.invariant in
    let s = c.self.invariant.small in
    omega (arith, h, n, s)

pub part-requires-clause-place : goal.part-requires-clause-place
part-requires-clause-place c =
    let h = rw (← c.self.view_is) at c.requires in
    let n = count c.self.inside.links.items c.self.inside.latest c.self.invariant in
    omega (arith, h, n)

pub part-requires-clause-older : goal.part-requires-clause-older
part-requires-clause-older c = older_in c.self.inside.links.items c.self.inside.latest c.self.invariant c.args.place (part-requires-clause-place c)

pub part-requires-clause-newer : goal.part-requires-clause-newer
part-requires-clause-newer c = newer_in c.self.inside.links.items c.self.inside.latest c.self.invariant c.args.place (part-requires-clause-place c)

pub rename-requires-clause-place : goal.rename-requires-clause-place
rename-requires-clause-place c =
    let h = rw (← c.self.view_is) at c.requires in
    let n = count c.self.inside.links.items c.self.inside.latest c.self.invariant in
    let k = ap length c.part.ensures in
    let p = length-parted c.self.inside.links.items c.args.place in
    omega (arith, h, n, k, p, c.len.ensures)

pub rename-requires-clause-older : goal.rename-requires-clause-older
rename-requires-clause-older c =
    let h = rw (← c.self.view_is) at c.requires in
    let n = count c.self.inside.links.items c.self.inside.latest c.self.invariant in
    let k = ap length c.part.ensures in
    let p = length-parted c.self.inside.links.items c.args.place in
    let at = parted_older_in c.self.inside.links.items c.self.inside.latest c.self.invariant c.args.place (omega (arith, h, n)) (c.len.result - 1) (omega (arith, h, n, c.len.ensures)) in
    let is = ap (λ ls. older_at ls (c.len.result - 1)) c.part.ensures in
    omega (arith, k, p, at, is)

pub rename-requires-clause-newer : goal.rename-requires-clause-newer
rename-requires-clause-newer c =
    let h = rw (← c.self.view_is) at c.requires in
    let n = count c.self.inside.links.items c.self.inside.latest c.self.invariant in
    let k = ap length c.part.ensures in
    let p = length-parted c.self.inside.links.items c.args.place in
    let at = parted_newer_in c.self.inside.links.items c.self.inside.latest c.self.invariant c.args.place (omega (arith, h, n)) (c.len.result - 1) (omega (arith, h, n, c.len.ensures)) in
    let is = ap (λ ls. newer_at ls (c.len.result - 1)) c.part.ensures in
    omega (arith, k, p, at, is)

pub swap_remove-requires : goal.swap_remove-requires
swap_remove-requires c =
    let h = rw (← c.self.view_is) at c.requires in
    let n = count c.self.inside.links.items c.self.inside.latest c.self.invariant in
    let k = ap length c.part.ensures in
    let t = ap length c.rename.ensures in
    let u = length-told_or_same c.part.new.links.items (c.len.result - 1) c.args.place in
    let p = length-parted c.self.inside.links.items c.args.place in
    omega (arith, h, n, k, p, t, u)

pub invariant_of-self : goal.invariant_of-self
invariant_of-self c =
    let h = rw (← c.self.view_is) at c.requires in
    let n = count c.self.inside.links.items c.self.inside.latest c.self.invariant in
    (removed_at c.self.inside.links.items c.self.inside.latest c.self.invariant c.args.place c.len.result c.part.new.links.items c.rename.new.links.items c.swap_remove.new.self.items
    c.latest_without-latest.result c.moved-self-inside.result c.swap_remove.result (omega (arith, h, n)) (omega (arith, c.len.ensures)) c.part.ensures c.rename.ensures c.swap_remove.ensures.items
    c.latest_without-latest.ensures c.moved-self-inside.ensures).ring

pub returns : goal.returns
returns c =
    let h = rw (← c.self.view_is) at c.requires in
    let n = count c.self.inside.links.items c.self.inside.latest c.self.invariant in
    rw (← c.self.view_is) (removed_at c.self.inside.links.items c.self.inside.latest c.self.invariant c.args.place c.len.result c.part.new.links.items c.rename.new.links.items c.swap_remove.new.self.items
    c.latest_without-latest.result c.moved-self-inside.result c.swap_remove.result (omega (arith, h, n)) (omega (arith, c.len.ensures)) c.part.ensures c.rename.ensures c.swap_remove.ensures.items
    c.latest_without-latest.ensures c.moved-self-inside.ensures).order
