use Rattle.std.proofs.Common.{◌≡◌, Some, refl, ap, sym, ◌∙◌, subst}
use Rattle.row.specs.declared.refused.Refused.TheVariants.{NoMemory}
use Rattle.packet.specs.Outboxes.{packets_on}
use Rattle.protocol.specs.Bases.{declined}
use Rattle.protocol.specs.Edges.{pushed}
use Rattle.protocol.specs.WorldSteps.{base_sent}
use Rattle.base_domain.specs.Codes.{message_of}
use Rattle.base_domain.specs.Received.{verdict_of}
use Rattle.machine.proofs.BaseTurns.{base_reply, base_turn}
use Rattle.machine.proofs.turns.turn_base.Goals as goal

pub returns-clause-turn : goal.returns-clause-turn
returns-clause-turn g c =
    base_turn g.F.Fronts.log g.F.Fronts.authors c.args.domain.now c.receive.new.self (message_of c.args.message) c.receive.new.out c.args.queues.now c.push.new.self c.requires.sessions c.in_ok-receive.ensures.done
    (subst (λ r. verdict_of r ≡ Some (declined NoMemory) → ⊥) c.into_parts-packets.ensures.reply (c.if-is_for_memory.ensures refl))
    c.receive.ensures.place
    (subst (λ o. c.push.new.self ≡ base_sent o (packets_on c.receive.new.out.edges) c.args.queues.now) (sym c.in-Some.is ∙ c.requires.source)
    (c.in-Ok-push.ensures ∙ ap (λ e. pushed c.in-Some.source (packets_on e) c.args.queues.now) c.into_parts-packets.ensures.edges))

pub receive-requires-clause-ready : goal.receive-requires-clause-ready
receive-requires-clause-ready g c = c.in-Ok.ensures.clear

pub receive-requires-clause-edges : goal.receive-requires-clause-edges
receive-requires-clause-edges g c = c.in-Ok.ensures.edges ∙ c.requires.edges

pub returns-clause-reply : goal.returns-clause-reply
returns-clause-reply g c =
    ap verdict_of c.into_parts-packets.ensures.reply
    ∙ base_reply g.F.Fronts.log g.F.Fronts.authors c.args.domain.now c.receive.new.self (message_of c.args.message) c.receive.new.out c.in_ok-receive.ensures.done (subst (λ r. verdict_of r ≡ Some (declined NoMemory) → ⊥) c.into_parts-packets.ensures.reply (c.if-is_for_memory.ensures refl))

pub returns-in_default-source-clause-turn : goal.returns-in_default-source-clause-turn
returns-in_default-source-clause-turn g c =
    base_turn g.F.Fronts.log g.F.Fronts.authors c.args.domain.now c.receive.new.self (message_of c.args.message) c.receive.new.out c.args.queues.now c.args.queues.now c.requires.sessions c.in_ok-receive.ensures.done
    (subst (λ r. verdict_of r ≡ Some (declined NoMemory) → ⊥) c.into_parts-packets.ensures.reply (c.if-is_for_memory.ensures refl))
    c.receive.ensures.place
    (subst (λ o. c.args.queues.now ≡ base_sent o (packets_on c.receive.new.out.edges) c.args.queues.now) (sym c.in_default-source.is ∙ c.requires.source) refl)

pub returns-in_default-source-clause-reply : goal.returns-in_default-source-clause-reply
returns-in_default-source-clause-reply g c =
    ap verdict_of c.into_parts-packets.ensures.reply
    ∙ base_reply g.F.Fronts.log g.F.Fronts.authors c.args.domain.now c.receive.new.self (message_of c.args.message) c.receive.new.out c.in_ok-receive.ensures.done (subst (λ r. verdict_of r ≡ Some (declined NoMemory) → ⊥) c.into_parts-packets.ensures.reply (c.if-is_for_memory.ensures refl))
