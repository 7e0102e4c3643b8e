use Rattle.std.proofs.Common.{ap, ◌∙◌}
use Rattle.packet.specs.Outboxes.{packets_on}
use Rattle.protocol.specs.Edges.{pushed}
use Rattle.stage_steps.specs.Codes.{message_of}
use Rattle.machine.proofs.StageTurns.{stage_turn}
use Rattle.machine.proofs.turns.turn_stage.Goals as goal

pub returns : goal.returns
returns g c = record {
  turn = stage_turn c.args.stage c.args.domain.now c.receive.new.self (message_of c.args.message) c.receive.new.out c.args.queues.now c.push.new.self c.args.asks.now c.push-2.new.self c.requires.is c.in_ok-receive.ensures.done c.receive.ensures.plan c.receive.ensures.shard
      (c.in-Ok-push.ensures ∙ ap (λ e. pushed c.args.stage (packets_on e) c.args.queues.now) c.into_parts-packets.ensures.packets) (c.in-Ok-push-2.ensures ∙ ap (λ e. pushed c.args.stage (packets_on e) c.args.asks.now) c.into_parts-packets.ensures.requests);
}

pub receive-requires : goal.receive-requires
receive-requires g c = record { clear = c.in-Ok.ensures.clear; edges = record { readers = c.in-Ok.ensures.readers ∙ c.requires.readers; sources = c.in-Ok.ensures.sources ∙ c.requires.sources }; meets = c.requires.meets }
