use Rattle.std.proofs.Common.{◌∙◌, ap, sym, Some, arith}
use Rattle.std.proofs.lemmas.List.{get_or_read}
use Rattle.linked_map.specs.Rings.{no_link}
use Rattle.linked_map.specs.declared.ring.Link.{Link}
use Rattle.linked_map.proofs.Rings.{count, newer}
use Rattle.linked_map.proofs.ring.Ring.newer.Goals as goal

pub index-requires : goal.index-requires
index-requires c =
    let h = rw (← c.self.view_is) at c.requires in
    let n = count c.self.inside.links.items c.self.inside.latest c.self.invariant in
    omega (arith, h, n)

pub returns : goal.returns
returns c =
    let h = rw (← c.self.view_is) at c.requires in
    let n = count c.self.inside.links.items c.self.inside.latest c.self.invariant in
    let read = get_or_read c.self.inside.links.items c.args.place c.index.result.now (omega (arith, h, n)) c.index.ensures no_link in
    rw (← c.self.view_is) (λ k at. newer c.self.inside.links.items c.self.inside.latest c.self.invariant k c.args.place at ∙ sym (ap (λ (l : Link). Some l.newer) read))
