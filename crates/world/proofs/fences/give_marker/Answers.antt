use Rattle.std.proofs.Common.{refl}
use Rattle.packet.specs.Codes.{mark_of}
use Rattle.base_domain.specs.Received.{verdict_of}
use Rattle.machine.specs.Held.{base_node}
use Rattle.machine.specs.Machines.{held}
use Rattle.world.proofs.Marked.{marker_lost, marker_passed}
use Rattle.machine.proofs.Meeting.{seen_there, seen_up}
use Rattle.world.proofs.fences.give_marker.Goals as goal

pub give_base-requires : goal.give_base-requires
give_base-requires g c = record {
  placed = c.requires.placed;
  up = seen_up (base_node g.F.Fronts.log g.F.Fronts.authors) c.deref.result.now c.args.machine.now.bases.items c.args.base _ c.if-not-base_runs.ensures.runs c.deref.ensures.value;
  there = seen_there c.deref.result.now c.args.machine.now.bases.items c.args.base (c.if-not-base_runs.ensures.there refl) c.deref.ensures.value;
  of = λ d at. tt;
}

pub returns : goal.returns
returns g c = record { done = marker_passed g.F.Fronts.log g.F.Fronts.authors (held c.args.machine.now) c.args.base (mark_of c.args.marker) c.requires.placed (verdict_of c.in_ok-give_base.field-0) (held c.give_base.new.machine) c.in_ok-give_base.ensures.given }

pub returns-then-not-base_runs : goal.returns-then-not-base_runs
returns-then-not-base_runs g c = record {
  done = marker_lost g.F.Fronts.log g.F.Fronts.authors (held c.args.machine.now) c.args.base (mark_of c.args.marker) c.requires.placed
      (seen_up (base_node g.F.Fronts.log g.F.Fronts.authors) c.deref.result.now c.args.machine.now.bases.items c.args.base _ c.if-not-base_runs.ensures.runs c.deref.ensures.value);
}
