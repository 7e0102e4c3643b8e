use Rattle.std.proofs.Common.{length, ap, sym, ◌∙◌}
use Rattle.plan.specs.Layouts.{Layout}
use Rattle.model.specs.Places.{sources}
use Rattle.packet.specs.Readers.{readers}
use Rattle.schedule.specs.Codes.{reader_in}
use Rattle.machine.specs.Held.{Held}
use Rattle.machine.specs.Started.{new_sessions, new_views}
use Rattle.machine.proofs.Meeting.{as_many}
use Rattle.machine.proofs.Starting.{IsNew, new_whole, new_world, queues_are}
use Rattle.machine.proofs.starts.new_machine.Goals as goal

pub returns : goal.returns
returns g c =
    let log = g.F.Fronts.log in
    let authors = g.F.Fronts.authors in
    let p : Layout = c.args.plan.now in
    let places = c.in_ok-places.ensures in
    let lines = ap length c.sources-sources.ensures ∙ ap (λ l. length (sources l)) places in
    let shards = as_many reader_in c.readers-readers.result.now c.in_ok-places.places p c.readers-readers.ensures (sym places) in
    let stages = c.in_ok-stages.stages in
    let views = c.in_ok-views.views in
    let machine : Held g.row.F.Denot = record {
      plan = c.in_ok-places.places;
      bases = c.in_ok-bases.bases.items;
      stages = stages.items;
      views = views.items;
      to_stage = c.in_ok-new.field-0;
      to_view = c.in_ok-new-2.field-0;
      from_view = c.in_ok-new-3.field-0;
      to_base = c.in_ok-new-4.field-0;
      sessions = c.in_ok-callers.callers.items;
    } in
    let new : IsNew log authors p machine = record {
      plan = places;
      bases = c.in_ok-bases.ensures;
      stages = c.in_ok-stages.ensures;
      views = c.in_ok-views.ensures ∙ ap new_views places;
      to_stage = queues_are _ _ p.stages (length (sources p)) c.in_ok-new.field-0 c.in_ok-new.ensures c.stages.ensures lines;
      to_view = queues_are _ _ (length (readers p)) p.stages c.in_ok-new-2.field-0 c.in_ok-new-2.ensures shards c.stages-2.ensures;
      from_view = queues_are _ _ p.stages (length (readers p)) c.in_ok-new-3.field-0 c.in_ok-new-3.ensures c.stages-3.ensures shards;
      to_base = queues_are _ _ (length (sources p)) p.stages c.in_ok-new-4.field-0 c.in_ok-new-4.ensures lines c.stages-4.ensures;
      sessions = c.in_ok-callers.ensures ∙ ap new_sessions places;
    } in
    record { world = new_world log authors p machine new; whole = new_whole log authors p machine c.keeps_profile.ensures.plan new }
