use Rattle.std.proofs.Common.{◌∙◌, sym}
use Rattle.linked_map.proofs.Maps.{seen, once}
use Rattle.linked_map.proofs.map.LinkedMap.len.Goals as goal

pub returns-clause-len : goal.returns-clause-len
returns-clause-len g c = rw (← c.self.view_is) (c.len.ensures.len ∙ sym (seen c.self.inside.map.entries c.self.inside.ring c.len.ensures.order c.self.invariant))

pub returns-clause-unique : goal.returns-clause-unique
returns-clause-unique g c = rw (← c.self.view_is) (once c.self.inside.map.entries c.self.inside.ring c.len.ensures.order c.self.invariant g.met.K.Eq.laws c.len-len.ensures.unique)
