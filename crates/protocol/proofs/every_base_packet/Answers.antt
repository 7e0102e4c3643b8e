use Rattle.protocol.proofs.BaseTruth as truths
use Rattle.protocol.proofs.every_base_packet.Goals as goal

pub returns : goal.returns
returns c = record { truth = truths.every_base_packet }
