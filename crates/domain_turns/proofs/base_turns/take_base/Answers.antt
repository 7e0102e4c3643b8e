use Rattle.std.proofs.Common.{◌≡◌, OnErr, ap, sym, subst}
use Rattle.std.specs.Option.{ForSome}
use Rattle.base_domain.specs.Codes.{message_of}
use Rattle.book.specs.Fronts.{FrontView}
use Rattle.packet.specs.Messages.{none_of}
use Rattle.packet.specs.Outboxes.{OutboxView, packets_on}
use Rattle.routes.specs.Mails.{HasFront}
use Rattle.domain_turns.proofs.Replies.{has_front, halted, put_back, taken_back, unsent}
use Rattle.domain_turns.proofs.base_turns.take_base.Goals as goal

pub reply_of-requires : goal.reply_of-requires
reply_of-requires g c =
    let r = c.receive-taken.ensures in
    subst (λ o. ForSome o HasFront) (sym c.take_reply.ensures.reply)
    (has_front g.J.Naming.plan (message_of c.into_message.result) c.args.domain.now c.receive-taken.new.self c.receive-taken.new.out c.receive-taken.result r.done r.stopped r.refused r.memory)

pub returns-clause-done : goal.returns-clause-done
returns-clause-done g c = λ own.
    taken_back g.J.Naming.plan (message_of c.into_message.result) _ c.args.domain.now c.receive-taken.new.self c.receive-taken.new.out _ c.receive-taken.result c.into_message.ensures.message
    (put_back c.receive-taken.new.out c.take_reply.new.self c.take_reply.result c.reply_of.result c.take_reply.ensures.reply c.take_reply.ensures.rest c.reply_of.ensures) c.receive-taken.ensures.done

pub returns-clause-stopped : goal.returns-clause-stopped
returns-clause-stopped g c =
    halted g.J.Naming.plan (message_of c.into_message.result) c.args.domain.now c.receive-taken.new.self c.receive-taken.new.out c.receive-taken.result (c.receive-taken.ensures.stopped, c.receive-taken.ensures.refused)

pub returns-clause-silent : goal.returns-clause-silent
returns-clause-silent g c =
    let r = c.receive-taken in
    subst (λ es. OnErr r.result (packets_on es ≡ none_of es)) (sym (ap (λ (o : OutboxView FrontView). o.edges) c.take_reply.ensures.rest))
    (unsent g.J.Naming.plan (message_of c.into_message.result) c.args.domain.now r.new.self r.new.out r.result (r.ensures.stopped, r.ensures.refused))
