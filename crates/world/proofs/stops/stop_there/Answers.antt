use Rattle.std.proofs.Common.{arith}
use Rattle.machine.specs.Machines.{held}
use Rattle.machine.proofs.Meeting.{got_at}
use Rattle.world.proofs.Stopping.{base_stops, no_base_stops, no_stage_stops, no_view_stops, same_spot, stage_stops, view_stops}
use Rattle.world.proofs.stops.stop_there.Goals as goal

-- there is the domain
pub returns-then-base-len : goal.returns-then-base-len
returns-then-base-len g c = record {
  stopped = same_spot g.F.Fronts.log g.F.Fronts.authors (held c.args.machine.now) _ _ _ c.in-Base.is
      (base_stops g.F.Fronts.log g.F.Fronts.authors (held c.args.machine.now) c.in-Base.base c.index_mut.result.now c.stop.new.self c.requires.placed (got_at c.args.machine.now.bases.items c.in-Base.base _ _ (omega (arith, c.if-base-len.true, c.len.ensures)) c.index_mut.ensures.value) c.stop.ensures);
}

pub returns-then-stage-len : goal.returns-then-stage-len
returns-then-stage-len g c = record {
  stopped = same_spot g.F.Fronts.log g.F.Fronts.authors (held c.args.machine.now) _ _ _ c.in-Stage.is
      (stage_stops g.F.Fronts.log g.F.Fronts.authors (held c.args.machine.now) c.in-Stage.stage c.index_mut-then-stage-len.result.now c.stop-then-stage-len.new.self c.requires.placed (got_at c.args.machine.now.stages.items c.in-Stage.stage _ _ (omega (arith, c.if-stage-len.true, c.len-in-Stage.ensures)) c.index_mut-then-stage-len.ensures.value) c.stop-then-stage-len.ensures.running c.stop-then-stage-len.ensures.not);
}

pub returns-then-reader-len : goal.returns-then-reader-len
returns-then-reader-len g c = record {
  stopped = same_spot g.F.Fronts.log g.F.Fronts.authors (held c.args.machine.now) _ _ _ c.in-View.is
      (view_stops g.F.Fronts.log g.F.Fronts.authors (held c.args.machine.now) c.in-View.reader c.index_mut-then-reader-len.result.now c.stop-then-reader-len.new.self c.requires.placed (got_at c.args.machine.now.views.items c.in-View.reader _ _ (omega (arith, c.if-reader-len.true, c.len-in-View.ensures)) c.index_mut-then-reader-len.ensures.value) c.stop-then-reader-len.ensures.running c.stop-then-reader-len.ensures.not);
}

-- there is none
pub returns-else-base-len : goal.returns-else-base-len
returns-else-base-len g c = record { stopped = same_spot g.F.Fronts.log g.F.Fronts.authors (held c.args.machine.now) _ _ _ c.in-Base.is (no_base_stops g.F.Fronts.log g.F.Fronts.authors (held c.args.machine.now) c.in-Base.base c.requires.placed (omega (arith, c.if-base-len.false, c.len.ensures))) }

pub returns-else-stage-len : goal.returns-else-stage-len
returns-else-stage-len g c = record { stopped = same_spot g.F.Fronts.log g.F.Fronts.authors (held c.args.machine.now) _ _ _ c.in-Stage.is (no_stage_stops g.F.Fronts.log g.F.Fronts.authors (held c.args.machine.now) c.in-Stage.stage c.requires.placed (omega (arith, c.if-stage-len.false, c.len-in-Stage.ensures))) }

pub returns-else-reader-len : goal.returns-else-reader-len
returns-else-reader-len g c = record { stopped = same_spot g.F.Fronts.log g.F.Fronts.authors (held c.args.machine.now) _ _ _ c.in-View.is (no_view_stops g.F.Fronts.log g.F.Fronts.authors (held c.args.machine.now) c.in-View.reader c.requires.placed (omega (arith, c.if-reader-len.false, c.len-in-View.ensures))) }
