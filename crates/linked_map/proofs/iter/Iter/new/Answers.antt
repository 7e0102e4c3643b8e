use Rattle.std.proofs.Common.{ap, reverse}
use Rattle.linked_map.proofs.Maps.{whole}
use Rattle.linked_map.proofs.iter.Iter.new.Goals as goal

pub returns : goal.returns
returns g c = ap reverse (whole c.args.map.now.entries c.args.ring.now c.len-left.ensures.order c.requires c.len-left.result c.len-left.ensures.len)
