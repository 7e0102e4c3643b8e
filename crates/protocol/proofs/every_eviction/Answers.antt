use Rattle.protocol.proofs.Evictions as evictions
use Rattle.protocol.proofs.every_eviction.Goals as goal

pub returns : goal.returns
returns c = record { keys = evictions.every_eviction }
