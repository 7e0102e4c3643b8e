use Rattle.std.proofs.Common.{rules}
use Rattle.model.specs.Entries.{change_of}
use Rattle.base.proofs.Fronts.{at_next}
use Rattle.base.proofs.shard.BaseShard.commit.Goals as goal

pub returns-clause-front : goal.returns-clause-front
returns-clause-front c front at =
    at_next c.args.self.now c.count.new.self front (change_of c.args.entry) (search rules) (search rules) (search rules) at
