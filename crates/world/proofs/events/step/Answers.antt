use Rattle.std.proofs.Common.{ap, subst, sym, ◌∙◌}
use Rattle.std.specs.Result.{IfOk}
use Rattle.row.specs.Cells.{datum_of}
use Rattle.protocol.specs.Events.{try_read, want}
use Rattle.protocol.specs.WorldSteps.{step}
use Rattle.schedule.specs.Codes.{event_of, reply_of}
use Rattle.machine.specs.Held.{IsDone, world_of}
use Rattle.machine.specs.Machines.{held}
use Rattle.machine.proofs.Meeting.{reader_there}
use Rattle.world.proofs.Looking.{tries, try_denied}
use Rattle.world.proofs.Wanting.{want_denied, wants}
use Rattle.world.proofs.events.step.Goals as goal

pub returns-in-Settle : goal.returns-in-Settle
returns-in-Settle g c =
    let log = g.F.Fronts.log in
    let authors = g.F.Fronts.authors in
    record {
      done = subst (λ e. IfOk c.settle.result (λ r. IsDone log authors (step (world_of log authors (held c.args.machine.now)) (event_of e)) (reply_of r) (held c.settle.new.machine))) (sym c.in-Settle.is) c.settle.ensures.done;
    }

pub look-requires : goal.look-requires
look-requires g c =
    let at = c.in-Ok.ensures.sought in
    record { placed = c.requires.whole.placed; session = at.session; there = reader_there g.F.Fronts.log g.F.Fronts.authors (held c.args.machine.now) c.in-Ok.at.1 _ c.requires.whole.placed at.reader; reader = at.reader }

pub returns-in-Ok : goal.returns-in-Ok
returns-in-Ok g c = record {
  done = tries g.F.Fronts.log g.F.Fronts.authors reply_of (held c.args.machine.now) c.in-Try.session c.deref-in-Try.result.now (datum_of c.in-Try.key) c.in-Ok.at.0 c.in-Ok.at.1 (held c.look.new.machine) (event_of c.args.event.now) (ap event_of c.in-Try.is ∙ ap (λ n. try_read c.in-Try.session n (datum_of c.in-Try.key)) (sym c.deref-in-Try.ensures))
      c.in-Ok.ensures.sought c.look.result c.look.ensures.done;
}

pub returns-in-Err : goal.returns-in-Err
returns-in-Err g c = record { done = try_denied g.F.Fronts.log g.F.Fronts.authors (held c.args.machine.now) c.in-Try.session c.deref-in-Try.result.now (datum_of c.in-Try.key) c.in-Err.refused (event_of c.args.event.now) (ap event_of c.in-Try.is ∙ ap (λ n. try_read c.in-Try.session n (datum_of c.in-Try.key)) (sym c.deref-in-Try.ensures)) c.requires.whole.placed c.in-Err.ensures.denied }

pub want_at-requires : goal.want_at-requires
want_at-requires g c = record { placed = c.requires.whole.placed; there = reader_there g.F.Fronts.log g.F.Fronts.authors (held c.args.machine.now) c.in-Ok-sought.at.1 _ c.requires.whole.placed c.in-Ok-sought.ensures.sought.reader }

pub returns-in-Ok-sought : goal.returns-in-Ok-sought
returns-in-Ok-sought g c = record {
  done = wants g.F.Fronts.log g.F.Fronts.authors reply_of (held c.args.machine.now) c.in-Want.session c.deref-in-Want.result.now (datum_of c.in-Want.key) c.in-Ok-sought.at.0 c.in-Ok-sought.at.1 (held c.want_at.new.machine) (event_of c.args.event.now) (ap event_of c.in-Want.is ∙ ap (λ n. want c.in-Want.session n (datum_of c.in-Want.key)) (sym c.deref-in-Want.ensures))
      c.in-Ok-sought.ensures.sought c.want_at.result c.want_at.ensures.done;
}

pub returns-in-Err-sought : goal.returns-in-Err-sought
returns-in-Err-sought g c = record { done = want_denied g.F.Fronts.log g.F.Fronts.authors (held c.args.machine.now) c.in-Want.session c.deref-in-Want.result.now (datum_of c.in-Want.key) c.in-Err-sought.refused (event_of c.args.event.now) (ap event_of c.in-Want.is ∙ ap (λ n. want c.in-Want.session n (datum_of c.in-Want.key)) (sym c.deref-in-Want.ensures)) c.requires.whole.placed c.in-Err-sought.ensures.denied }
