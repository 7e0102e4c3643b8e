use Rattle.std.proofs.Common.{◌≡◌, Some, slice_get, length, refl, ap, ◌∙◌, subst, arith}
use Rattle.model.specs.Places.{sources}
use Rattle.packet.specs.Codes.{mark_of}
use Rattle.machine.specs.Machines.{held}
use Rattle.world.proofs.Marked.{mark_plan, mark_goes_on, marks_end}
use Rattle.world.proofs.fences.mark_all.Goals as goal

pub loop-at-preserved : goal.loop-at-preserved
loop-at-preserved g c =
    let taken = c.in_ok-give_marker.ensures.done in
    record {
      marks = mark_goes_on g.F.Fronts.log g.F.Fronts.authors (held c.loop-at.machine) (held c.give_marker.new.machine) c.source_at-base.result (mark_of c.args.marker) taken (sources c.args.machine.now.places) c.loop-at.at _ _
          (subst (λ p. slice_get (sources p) c.loop-at.at ≡ Some c.source_at-base.result) c.loop-at.invariant.plan c.source_at-base.ensures) (omega (arith)) c.loop-at.invariant.marks;
      end = c.loop-at.invariant.end;
      plan = mark_plan g.F.Fronts.log g.F.Fronts.authors (held c.loop-at.machine) (held c.give_marker.new.machine) c.source_at-base.result (mark_of c.args.marker) taken ∙ c.loop-at.invariant.plan;
      placed = taken.placed;
    }

pub loop-at-init : goal.loop-at-init
loop-at-init g c = record { placed = c.requires.placed; plan = refl; end = ap length c.sources-at-end.ensures; marks = refl }

pub returns : goal.returns
returns g c = record {
  done = marks_end g.F.Fronts.log g.F.Fronts.authors (held c.loop-at.machine) (mark_of c.args.marker) (sources c.args.machine.now.places) c.loop-at.at _ c.loop-at.invariant.placed (omega (arith, c.loop-at.invariant.end, c.loop-at-test.false)) c.loop-at.invariant.marks;
}

pub give_marker-requires : goal.give_marker-requires
give_marker-requires g c = record { placed = c.loop-at.invariant.placed }
