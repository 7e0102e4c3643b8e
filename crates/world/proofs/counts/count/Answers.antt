use Rattle.std.proofs.Common.{map, refl, ap, ◌∙◌, arith}
use Rattle.protocol.specs.WorldSteps.{asked_all, count_by}
use Rattle.machine.specs.Held.{view_node, world_of}
use Rattle.machine.specs.Machines.{held}
use Rattle.world.proofs.Counting.{counts, count_refused}
use Rattle.row.specs.declared.refused.Refused.TheVariants.{UnknownPlace}
use Rattle.protocol.specs.Events.{refused}
use Rattle.machine.proofs.Acks.{stranger}
use Rattle.world.proofs.counts.count.Goals as goal

pub returns-in-Ok : goal.returns-in-Ok
returns-in-Ok g c = record {
  done = counts g.F.Fronts.log g.F.Fronts.authors (held c.args.machine.now) c.args.session c.args.view.now c.in-Ok.place c.asked_all.result c.plan.result.now c.plan.ensures c.requires.whole.placed (omega (arith, c.if-session-len.false, c.len.ensures))
      c.in-Ok.ensures.view (c.asked_all.ensures ∙ ap (λ vs. asked_all c.in-Ok.place (map view_node vs)) c.deref.ensures.value);
}

pub returns-then-session-len : goal.returns-then-session-len
returns-then-session-len g c = record {
  done = stranger g.F.Fronts.log g.F.Fronts.authors (held c.args.machine.now) c.args.session (λ o. count_by (world_of g.F.Fronts.log g.F.Fronts.authors (held c.args.machine.now)) o c.args.view.now) (refused UnknownPlace) refl c.requires.whole.placed (omega (arith, c.if-session-len.true, c.len.ensures));
}

pub returns-in-Err : goal.returns-in-Err
returns-in-Err g c = record {
  done = count_refused g.F.Fronts.log g.F.Fronts.authors (held c.args.machine.now) c.args.session c.args.view.now c.in-Err.refused c.plan.result.now c.plan.ensures c.requires.whole.placed (omega (arith, c.if-session-len.false, c.len.ensures)) c.in-Err.ensures.why;
}
