use Rattle.std.proofs.Common.{refl}
use Rattle.row.specs.Cells.{datum_of}
use Rattle.protocol.specs.Events.{evicted}
use Rattle.machine.specs.Held.{stage_node}
use Rattle.machine.specs.Machines.{held}
use Rattle.machine.proofs.Meeting.{seen, seen_up}
use Rattle.machine.proofs.StageOrders.{stage_evict_done, stage_evict_stopped, stage_ordered, stage_refused}
use Rattle.machine.proofs.orders.evict_stage.Goals as goal

pub give_stage-requires : goal.give_stage-requires
give_stage-requires g c =
    let s = seen stage_node c.deref.result.now c.args.machine.now.stages.items c.in-Ok.stage c.if-not-stage_runs.ensures.runs (c.if-not-stage_runs.ensures.there refl) c.deref.ensures.value in
    record { placed = c.requires.whole.placed; up = s.0; there = s.1; meets = λ d at running. tt }

pub returns : goal.returns
returns g c = record {
  done = stage_evict_done g.F.Fronts.log g.F.Fronts.authors (held c.args.machine.now) (datum_of c.args.key.now) c.plan.result.now c.plan.ensures c.requires.whole.placed c.in-Ok.stage c.in-Ok.ensures.free c.in-Ok.ensures.shard evicted (held c.give_stage.new.machine)
      (stage_ordered g.F.Fronts.log g.F.Fronts.authors (held c.args.machine.now) (held c.give_stage.new.machine) c.in-Ok.stage _ (datum_of c.args.key.now) c.in-Ok-try_clone.ensures c.requires.whole.placed
      (seen_up stage_node c.deref.result.now c.args.machine.now.stages.items c.in-Ok.stage _ c.if-not-stage_runs.ensures.runs c.deref.ensures.value) c.in_ok-give_stage.ensures.given);
}

pub returns-in-Err : goal.returns-in-Err
returns-in-Err g c = record { done = stage_refused g.F.Fronts.log g.F.Fronts.authors (held c.args.machine.now) (datum_of c.args.key.now) c.plan.result.now c.plan.ensures c.requires.whole.placed c.in-Err.refused c.in-Err.ensures.why }

pub returns-then-not-stage_runs : goal.returns-then-not-stage_runs
returns-then-not-stage_runs g c = record {
  done = stage_evict_stopped g.F.Fronts.log g.F.Fronts.authors (held c.args.machine.now) (datum_of c.args.key.now) c.plan.result.now c.plan.ensures c.requires.whole.placed c.in-Ok.stage c.in-Ok.ensures.free c.in-Ok.ensures.shard c.in-Ok.ensures.there
      (seen_up stage_node c.deref.result.now c.args.machine.now.stages.items c.in-Ok.stage _ c.if-not-stage_runs.ensures.runs c.deref.ensures.value);
}
