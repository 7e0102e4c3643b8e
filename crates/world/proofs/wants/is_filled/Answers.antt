use Rattle.std.proofs.Common.{◌∙◌}
use Rattle.std.specs.Option.{option_copied}
use Rattle.world.proofs.Looking.{rows_filled}
use Rattle.world.proofs.Wanting.{some_copied}
use Rattle.world.proofs.wants.is_filled.Goals as goal

pub returns : goal.returns
returns g c = c.is_some.ensures ∙ (some_copied c.get.result ∙ rows_filled c.args.domain.now.kept c.args.key.now (option_copied c.get.result) c.get.ensures.rows)
