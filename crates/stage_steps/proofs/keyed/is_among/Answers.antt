use Rattle.std.proofs.Common.{◌∙◌}
use Rattle.stage_steps.proofs.Words.{among_is}
use Rattle.stage_steps.proofs.keyed.is_among.Goals as goal

pub returns : goal.returns
returns c = c.contains.ensures.value ∙ among_is c.args.values.now c.args.value.now
