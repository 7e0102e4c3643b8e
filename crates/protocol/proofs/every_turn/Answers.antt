use Rattle.protocol.proofs.Every as every
use Rattle.protocol.proofs.every_turn.Goals as goal

pub returns : goal.returns
returns c = record { next = every.every_turn }
