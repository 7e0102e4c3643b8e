use Rattle.std.proofs.lemmas.Result.{IfOk-weaker}
use Rattle.script.specs.Commands.{Asks}
use Rattle.script.proofs.Reading.{only_calls}
use Rattle.script.proofs.Saying.{commands}
use Rattle.script.proofs.script.read_script.Goals as goal

pub returns-clause-ok : goal.returns-clause-ok
returns-clause-ok c = IfOk-weaker c.read_lines.result _ _ (λ calls is. only_calls Asks commands _ _ is) c.read_lines.ensures.ok
