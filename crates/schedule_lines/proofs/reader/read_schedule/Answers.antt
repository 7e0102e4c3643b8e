use Rattle.std.proofs.lemmas.Result.{IfOk-weaker}
use Rattle.schedule_lines.specs.Asks.{Asks}
use Rattle.script.proofs.Reading.{script_once}
use Rattle.schedule_lines.proofs.Asking.{events}
use Rattle.schedule_lines.proofs.reader.read_schedule.Goals as goal

pub returns-clause-only : goal.returns-clause-only
returns-clause-only c = IfOk-weaker c.read_lines.result _ _ (λ asked is others other. script_once Asks events _ 1 others _ other is) c.read_lines.ensures.ok
