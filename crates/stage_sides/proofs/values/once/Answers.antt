use Rattle.stage_sides.proofs.Sets.{set_of}
use Rattle.stage_sides.proofs.values.once.Goals as goal

pub returns : goal.returns
returns c = set_of c.args.values.items c.sort.new.self.items c.dedup.new.self.items c.in_ok-sort.ensures.permutation c.in_ok-sort.ensures.sorted c.dedup.ensures.filtered
