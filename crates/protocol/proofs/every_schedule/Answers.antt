use Rattle.protocol.proofs.Every as every
use Rattle.protocol.proofs.every_schedule.Goals as goal

pub returns : goal.returns
returns c = record { legal = every.every_schedule }
