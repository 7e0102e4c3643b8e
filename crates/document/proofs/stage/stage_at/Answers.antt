use Rattle.std.proofs.Common.{rules}
use Rattle.document.specs.Fields.{stage_at}
use Rattle.document.proofs.stage.stage_at.Goals as goal

pub returns-in_err-cap : goal.returns-in_err-cap
unfolding stage_at
returns-in_err-cap c = search rules
