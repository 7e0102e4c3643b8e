use Rattle.std.proofs.Common.{◌≡◌, Some, slice_get, ap, sym, ◌∙◌}
use Rattle.plan.specs.Layouts.{Layout}
use Rattle.packet.specs.Codes.{mark_of, marks_in}
use Rattle.protocol.specs.WorldSteps.{lengths_of}
use Rattle.view_domain.specs.Domains.{Domain, lines_of}
use Rattle.view_domain.specs.Codes.{message_of}
use Rattle.machine.specs.Held.{view_node}
use Rattle.machine.specs.Machines.{held}
use Rattle.machine.proofs.Meeting.{there_at, mode_runs, own_view, set_or, up_runs}
use Rattle.machine.proofs.Viewed.{placed, viewed_none, viewed_ack}
use Rattle.machine.proofs.views.give_view.Goals as goal

abbrev at : (g : _) (c : goal.After-turn_view-arg-1 g) → slice_get c.args.machine.now.views.items c.args.reader ≡ Some c.index_mut.result.now
at g c = there_at c.args.machine.now.views.items c.args.reader _ c.requires.there ∙ ap Some (sym c.index_mut.ensures.value)

pub turn_view-requires-clause-is : goal.turn_view-requires-clause-is
turn_view-requires-clause-is g c = own_view c.args.machine.now.places c.args.reader c.index_mut.result.now (c.requires.placed.views.each c.args.reader c.index_mut.result.now (at g c))

pub turn_view-requires-clause-runs : goal.turn_view-requires-clause-runs
turn_view-requires-clause-runs g c =
    mode_runs c.index_mut.result.now.mode (up_runs view_node c.args.machine.now.views.items c.args.reader c.index_mut.result.now (at g c) c.requires.up)

pub turn_view-requires-clause-edges : goal.turn_view-requires-clause-edges
turn_view-requires-clause-edges g c =
    c.stages-stages.ensures ∙ ap (λ (p : Layout). p.stages) (c.plan.ensures ∙ sym (c.requires.placed.views.each c.args.reader c.index_mut.result.now (at g c)).plan)

pub turn_view-requires-clause-meets : goal.turn_view-requires-clause-meets
turn_view-requires-clause-meets g c = c.requires.meets c.index_mut.result.now (at g c) (turn_view-requires-clause-runs g c)

pub acknowledge-requires : goal.acknowledge-requires
acknowledge-requires g c =
    let at = there_at c.args.machine.now.views.items c.args.reader _ c.requires.there ∙ ap Some (sym c.index_mut.ensures.value) in
    let running = mode_runs c.index_mut.result.now.mode (up_runs view_node c.args.machine.now.views.items c.args.reader c.index_mut.result.now at c.requires.up) in
    record { placed = placed g.F.Fronts.log g.F.Fronts.authors (held c.args.machine.now) c.args.reader c.index_mut.result.now c.turn_view.new.domain c.turn_view.new.queues (message_of c.args.message) c.requires.placed at running c.in_ok-acknowledged.ensures.turn }

pub returns : goal.returns
returns g c =
    let at = there_at c.args.machine.now.views.items c.args.reader _ c.requires.there ∙ ap Some (sym c.index_mut.ensures.value) in
    let running = mode_runs c.index_mut.result.now.mode (up_runs view_node c.args.machine.now.views.items c.args.reader c.index_mut.result.now at c.requires.up) in
    let same = c.index.ensures ∙ set_or c.args.machine.now.views.items c.args.reader c.turn_view.new.domain _ c.requires.there in
    record {
      done = viewed_ack g.F.Fronts.log g.F.Fronts.authors (held c.args.machine.now) c.args.reader c.index_mut.result.now c.turn_view.new.domain c.turn_view.new.queues (message_of c.args.message) c.requires.placed at running c.in_ok-acknowledged.ensures.turn
          (mark_of c.in-Some.marker) (sym c.in_ok-acknowledged.ensures.acks ∙ ap marks_in c.in-Some.is) c.in-Ok.cut (c.in-Ok.ensures ∙ ap (λ (d : Domain). lengths_of (lines_of d.cut)) same) _ (held c.acknowledge.new.machine) c.in_ok-reply.ensures.done;
    }

pub returns-in_default : goal.returns-in_default
returns-in_default g c =
    let at = there_at c.args.machine.now.views.items c.args.reader _ c.requires.there ∙ ap Some (sym c.index_mut.ensures.value) in
    let running = mode_runs c.index_mut.result.now.mode (up_runs view_node c.args.machine.now.views.items c.args.reader c.index_mut.result.now at c.requires.up) in
    record {
      done = viewed_none g.F.Fronts.log g.F.Fronts.authors (held c.args.machine.now) c.args.reader c.index_mut.result.now c.turn_view.new.domain c.turn_view.new.queues (message_of c.args.message) c.requires.placed at running c.in_ok-acknowledged.ensures.turn
          (sym c.in_ok-acknowledged.ensures.acks ∙ ap marks_in c.in_default.is);
    }
