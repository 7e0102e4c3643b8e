-- The program's messages as data.
use Rattle.row.specs.Cells.{datum_of}
use Rattle.protocol.specs.Stages.{ToStage, packet, request, order}
use Rattle.stage_steps.specs.declared.message.ToStage.{ToStage as Code}
use Rattle.stage_steps.specs.declared.message.ToStage.TheVariants as code

-- a message
abbrev pub message_of : {F W R : Type 0} → Code F W R → ToStage
message_of (code.Packet source k) = packet source k
message_of (code.Request ask) = request ask
message_of (code.Order key) = order (datum_of key)
