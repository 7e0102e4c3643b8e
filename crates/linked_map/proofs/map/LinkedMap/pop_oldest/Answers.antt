use Rattle.std.proofs.Common.{◌∙◌}
use Rattle.linked_map.proofs.Maps.{last_inside, last_is, last_removed}
use Rattle.linked_map.proofs.map.LinkedMap.pop_oldest.Goals as goal

pub take_out-requires-clause-place : goal.take_out-requires-clause-place
take_out-requires-clause-place g c = last_inside c.self.inside.map.entries c.self.inside.ring c.len.ensures.order c.self.invariant c.oldest-place.result c.oldest-place.ensures

pub returns-clause-value : goal.returns-clause-value
returns-clause-value g c =
    rw (← c.self.view_is) (c.take_out.ensures.taken ∙ last_is c.self.inside.map.entries c.self.inside.ring c.len.ensures.order c.self.invariant c.oldest-place.result c.oldest-place.ensures)

pub returns-clause-entries : goal.returns-clause-entries
returns-clause-entries g c =
    rw (← c.self.view_is) (c.take_out.ensures.entries ∙ last_removed c.self.inside.map.entries c.self.inside.ring c.len.ensures.order c.self.invariant c.oldest-place.result c.oldest-place.ensures)
