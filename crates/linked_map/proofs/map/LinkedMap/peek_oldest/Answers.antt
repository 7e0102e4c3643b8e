use Rattle.std.proofs.Common.{◌∙◌}
use Rattle.linked_map.proofs.Maps.{last_is}
use Rattle.linked_map.proofs.map.LinkedMap.peek_oldest.Goals as goal

pub returns : goal.returns
returns g c =
    rw (← c.self.view_is) (c.get_index.ensures.entry ∙ last_is c.self.inside.map.entries c.self.inside.ring c.len.ensures.order c.self.invariant c.oldest.result c.oldest.ensures)
