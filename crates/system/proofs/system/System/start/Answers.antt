use Rattle.model.specs.Places.{base_count}
use Rattle.book.proofs.Rights.{logs_empty}
use Rattle.system.proofs.system.System.start.Goals as goal

pub start-started-requires-clause-empty : goal.start-started-requires-clause-empty
start-started-requires-clause-empty g c κs within = logs_empty (base_count g.J.Naming.plan) _ c.in_ok-book.ensures.logs
