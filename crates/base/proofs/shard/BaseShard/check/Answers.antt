use Rattle.std.proofs.Common.{◌∙◌}
use Rattle.model.specs.Entries.{change_of}
use Rattle.base.proofs.Checks.{at_front}
use Rattle.base.proofs.shard.BaseShard.check.Goals as goal

pub returns-clause-front : goal.returns-clause-front
returns-clause-front c front at = c.check_found.ensures ∙ at_front c.args.self.now (change_of c.args.entry.now) front at
