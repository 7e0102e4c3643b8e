use Rattle.std.proofs.Common.{◌≡◌, ◌-◌, ◌∙◌, suc, sym, ap, take, reverse, length, arith, rules}
use Rattle.std.specs.Option.{option_map}
use Rattle.std.specs.Map.Iter.{deref_pair}
use Rattle.linked_map.specs.Orders.{entries_at}
use Rattle.linked_map.proofs.Maps.{placed, walked}
use Rattle.linked_map.proofs.iter.IterIterator.next.Goals as goal

pub unwrap-entry-requires : goal.unwrap-entry-requires
unwrap-entry-requires g c =
    let s = c.self.inside in
    let at = c.self.invariant.2 (omega (arith, c.if-self-eq0.false)) in
    c.get_index.ensures.found.1 (placed s.map.now.entries s.ring.now c.len-len.ensures.order c.self.invariant.0 (s.left - 1) s.place at)

pub returns-clause-steps : goal.returns-clause-steps
returns-clause-steps g c =
    let s = c.self.inside in
    let es = s.map.now.entries in
    let at = c.self.invariant.2 (omega (arith, c.if-self-eq0.false)) in
    let n : s.left ≡ suc (s.left - 1) = omega (arith, c.if-self-eq0.false) in
    let is = sym c.get_index.ensures.entry ∙ ap (option_map deref_pair) c.unwrap-entry.ensures in
    sym c.self.view_is ∙ ap (λ k. reverse (take k (entries_at es s.ring.now))) n
    ∙ walked es s.ring.now c.len-len.ensures.order c.self.invariant.0 (s.left - 1) s.place (deref_pair c.unwrap-entry.result) at is

pub returns-clause-goes : goal.returns-clause-goes
returns-clause-goes g c =
    let shorter = ap length (returns-clause-steps g c) in
    search rules
