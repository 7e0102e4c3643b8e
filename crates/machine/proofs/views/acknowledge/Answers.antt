use Rattle.std.proofs.Common.{Some, refl, ap, sym, ◌∙◌, arith}
use Rattle.machine.specs.Machines.{held}
use Rattle.machine.proofs.Acks.{ack_done, stranger}
use Rattle.machine.proofs.Meeting.{there_at}
use Rattle.protocol.specs.Events.{delivered}
use Rattle.protocol.specs.WorldSteps.{ack_from}
use Rattle.machine.specs.Held.{world_of}
use Rattle.machine.proofs.views.acknowledge.Goals as goal

pub returns : goal.returns
returns g c =
    let at = there_at c.args.machine.now.callers.items c.args.marker.session _ (omega (arith, c.if-marker-len.false, c.len.ensures)) ∙ ap Some (sym c.index_mut.ensures.value) in
    record { done = ack_done g.F.Fronts.log g.F.Fronts.authors (held c.args.machine.now) c.args.marker.session c.index_mut.result.now c.acknowledge.new.self c.args.marker.number c.args.reader c.args.cut _ c.requires.placed at c.in_ok-reply.ensures.caller c.in_ok-reply.ensures.reply }

pub returns-then-marker-len : goal.returns-then-marker-len
returns-then-marker-len g c = record {
  done = stranger g.F.Fronts.log g.F.Fronts.authors (held c.args.machine.now) c.args.marker.session (λ o. ack_from (world_of g.F.Fronts.log g.F.Fronts.authors (held c.args.machine.now)) c.args.marker.session o c.args.marker.number c.args.reader c.args.cut) delivered refl c.requires.placed (omega (arith, c.if-marker-len.true, c.len.ensures));
}
