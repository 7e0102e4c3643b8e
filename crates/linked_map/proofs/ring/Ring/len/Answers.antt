use Rattle.std.proofs.Common.{arith}
use Rattle.linked_map.proofs.Rings.{count}
use Rattle.linked_map.proofs.ring.Ring.len.Goals as goal

pub returns-clause-len : goal.returns-clause-len
returns-clause-len c = rw (← c.self.view_is) (let n = count c.self.inside.links.items c.self.inside.latest c.self.invariant in omega (arith, n, c.len.ensures))
