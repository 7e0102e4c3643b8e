use Rattle.std.proofs.Common.{◌∙◌, ap, Some, arith}
use Rattle.std.proofs.lemmas.List.{get_or_read}
use Rattle.linked_map.specs.Rings.{no_link}
use Rattle.linked_map.specs.declared.ring.Link.{Link}
use Rattle.linked_map.proofs.Rings.{count, oldest, latest_inside}
use Rattle.linked_map.proofs.ring.Ring.oldest.Goals as goal

pub index-requires : goal.index-requires
index-requires c =
    let h = rw (← c.self.view_is) at c.requires in
    let n = count c.self.inside.links.items c.self.inside.latest c.self.invariant in
    let i = latest_inside c.self.inside.links.items c.self.inside.latest c.self.invariant (omega (arith, h, n)) in
    omega (arith, i)

pub returns : goal.returns
returns c =
    let h = rw (← c.self.view_is) at c.requires in
    let n = count c.self.inside.links.items c.self.inside.latest c.self.invariant in
    let i = latest_inside c.self.inside.links.items c.self.inside.latest c.self.invariant (omega (arith, h, n)) in
    let read = get_or_read c.self.inside.links.items c.self.inside.latest c.index.result.now i c.index.ensures no_link in
    rw (← c.self.view_is) (ap (λ (k : Link). Some k.newer) read ∙ oldest c.self.inside.links.items c.self.inside.latest c.self.invariant h)
