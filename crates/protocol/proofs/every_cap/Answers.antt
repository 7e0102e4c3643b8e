use Rattle.protocol.proofs.Caps as caps
use Rattle.protocol.proofs.every_cap.Goals as goal

pub returns-clause-stage : goal.returns-clause-stage
returns-clause-stage c = caps.stage_cap

pub returns-clause-view : goal.returns-clause-view
returns-clause-view c = caps.view_cap
