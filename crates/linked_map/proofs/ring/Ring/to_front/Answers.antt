use Rattle.std.proofs.Common.{◌<◌, ◌∙◌, sym, ap, subst, length, arith}
use Rattle.linked_map.specs.Rings.{order_of, newer_at, joined, IsRing}
use Rattle.linked_map.proofs.Links.{length-parted}
use Rattle.linked_map.proofs.Rings.{count, older_in, newer_in, latest_inside, last_inside, front}
use Rattle.linked_map.proofs.ring.Ring.to_front.Goals as goal

pub part-requires-clause-place : goal.part-requires-clause-place
part-requires-clause-place c =
    let h = rw (← c.self.view_is) at c.requires in
    let n = count c.self.inside.links.items c.self.inside.latest c.self.invariant in
    omega (arith, h, n)

pub overflow_cast-place : goal.overflow_cast-place
overflow_cast-place c =
    let h = rw (← c.self.view_is) at c.requires in
    let n = count c.self.inside.links.items c.self.inside.latest c.self.invariant in
    let s = c.self.invariant.small in
    omega (arith, h, n, s)

pub part-requires-clause-older : goal.part-requires-clause-older
part-requires-clause-older c = older_in c.self.inside.links.items c.self.inside.latest c.self.invariant c.args.place (part-requires-clause-place c)

pub part-requires-clause-newer : goal.part-requires-clause-newer
part-requires-clause-newer c = newer_in c.self.inside.links.items c.self.inside.latest c.self.invariant c.args.place (part-requires-clause-place c)

pub join-requires-clause-place : goal.join-requires-clause-place
join-requires-clause-place c =
    let h = rw (← c.self.view_is) at c.requires in
    let n = count c.self.inside.links.items c.self.inside.latest c.self.invariant in
    let k = ap length c.part.ensures in
    let p = length-parted c.self.inside.links.items c.args.place in
    omega (arith, h, n, k, p)

pub join-requires-clause-first : goal.join-requires-clause-first
join-requires-clause-first c =
    let h = rw (← c.self.view_is) at c.requires in
    let n = count c.self.inside.links.items c.self.inside.latest c.self.invariant in
    let k = ap length c.part.ensures in
    let p = length-parted c.self.inside.links.items c.args.place in
    let i = latest_inside c.self.inside.links.items c.self.inside.latest c.self.invariant (omega (arith, h, n)) in
    omega (arith, k, p, i)

pub join-requires-clause-last : goal.join-requires-clause-last
join-requires-clause-last c =
    let h = rw (← c.self.view_is) at c.requires in
    let n = count c.self.inside.links.items c.self.inside.latest c.self.invariant in
    subst (λ ls. newer_at ls c.self.inside.latest < length ls) (sym c.part.ensures)
    (last_inside c.self.inside.links.items c.self.inside.latest c.self.invariant c.args.place (omega (arith, h, n)) c.if-place-self.false)

pub invariant_of-self : goal.invariant_of-self
invariant_of-self c =
    let h = rw (← c.self.view_is) at c.requires in
    let n = count c.self.inside.links.items c.self.inside.latest c.self.invariant in
    subst (λ ls. IsRing ls c.args.place) (sym (c.join.ensures ∙ ap (λ ls. joined ls c.args.place c.self.inside.latest) c.part.ensures))
    (front c.self.inside.links.items c.self.inside.latest c.self.invariant c.args.place (omega (arith, h, n)) c.if-place-self.false).ring

pub returns : goal.returns
returns c =
    let h = rw (← c.self.view_is) at c.requires in
    let n = count c.self.inside.links.items c.self.inside.latest c.self.invariant in
    rw (← c.self.view_is) (ap (λ ls. order_of ls c.args.place) (c.join.ensures ∙ ap (λ ls. joined ls c.args.place c.self.inside.latest) c.part.ensures)
    ∙ (front c.self.inside.links.items c.self.inside.latest c.self.invariant c.args.place (omega (arith, h, n)) c.if-place-self.false).order)
