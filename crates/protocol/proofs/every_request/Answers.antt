use Rattle.protocol.proofs.Caps as caps
use Rattle.protocol.proofs.every_request.Goals as goal

pub returns : goal.returns
returns c = record { counted = caps.counted }
