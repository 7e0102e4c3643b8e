use Rattle.std.proofs.Common.{ap, ◌∙◌}
use Rattle.packet.specs.Codes.{marks_in}
use Rattle.packet.specs.Outboxes.{packets_on}
use Rattle.protocol.specs.Edges.{pushed}
use Rattle.view_domain.specs.Codes.{message_of}
use Rattle.machine.proofs.ViewTurns.{view_turn}
use Rattle.machine.proofs.turns.turn_view.Goals as goal

pub returns-clause-turn : goal.returns-clause-turn
returns-clause-turn g c = view_turn c.args.reader c.args.domain.now c.receive.new.self (message_of c.args.message) c.receive.new.out c.args.queues.now c.push.new.self c.requires.is c.in_ok-receive.ensures.done
    (c.in-Ok-push.ensures ∙ ap (λ e. pushed c.args.reader (packets_on e) c.args.queues.now) c.not_shown-requests.ensures.requests)

pub returns-clause-acks : goal.returns-clause-acks
returns-clause-acks g c = ap marks_in c.not_shown-requests.ensures.ack ∙ c.in_ok-receive.ensures.done.acks

pub receive-requires : goal.receive-requires
receive-requires g c = record { ready = c.in-Ok.ensures.clear; edges = c.in-Ok.ensures.edges ∙ c.requires.edges; meets = c.requires.meets }
