use Rattle.row.specs.Cells.{datum_of}
use Rattle.protocol.specs.Events.{evicted}
use Rattle.protocol.specs.Views.{order}
use Rattle.std.proofs.Common.{refl}
use Rattle.machine.specs.Held.{view_node}
use Rattle.machine.specs.Machines.{held}
use Rattle.machine.proofs.Meeting.{seen, seen_up}
use Rattle.machine.proofs.Ordered.{evict_done, evict_refused, evict_stopped, ordered, same_key}
use Rattle.machine.proofs.orders.evict_view.Goals as goal

pub give_view-requires : goal.give_view-requires
give_view-requires g c =
    let s = seen view_node c.deref.result.now c.args.machine.now.views.items c.reader_of-reader.result c.if-not-view_runs.ensures.runs (c.if-not-view_runs.ensures.there refl) c.deref.ensures.value in
    record { placed = c.requires.whole.placed; up = s.0; there = s.1; meets = λ d at running. tt }

pub returns : goal.returns
returns g c =
    let h = held c.args.machine.now in
    let new = held c.give_view.new.machine in
    let r = c.reader_of-reader.result in
    let k = datum_of c.args.key.now in
    let up = seen_up view_node c.deref.result.now c.args.machine.now.views.items r _ c.if-not-view_runs.ensures.runs c.deref.ensures.value in
    let taken = same_key g.F.Fronts.log g.F.Fronts.authors h new r order _ k _ c.in-Ok-try_clone.ensures c.in_ok-give_view.ensures.done in
    record {
      done = evict_done g.F.Fronts.log g.F.Fronts.authors h c.args.view.now k c.plan.result.now c.plan.ensures c.requires.whole.placed c.in-Ok.view r c.in-Ok.ensures.view c.in-Ok.ensures.free c.reader_of-reader.ensures.place evicted new
          (ordered g.F.Fronts.log g.F.Fronts.authors h new r k _ _ up taken);
    }

pub returns-in-Err : goal.returns-in-Err
returns-in-Err g c = record {
  done = evict_refused g.F.Fronts.log g.F.Fronts.authors (held c.args.machine.now) c.args.view.now (datum_of c.args.key.now) c.plan.result.now c.plan.ensures c.requires.whole.placed c.in-Err.refused c.in-Err.ensures.why;
}

pub returns-then-not-view_runs : goal.returns-then-not-view_runs
returns-then-not-view_runs g c = record {
  done = evict_stopped g.F.Fronts.log g.F.Fronts.authors (held c.args.machine.now) c.args.view.now (datum_of c.args.key.now) c.plan.result.now c.plan.ensures c.requires.whole.placed c.in-Ok.view c.reader_of-reader.result c.in-Ok.ensures.view c.in-Ok.ensures.free c.reader_of-reader.ensures.place
      _ c.reader_of-reader.ensures.there (seen_up view_node c.deref.result.now c.args.machine.now.views.items c.reader_of-reader.result _ c.if-not-view_runs.ensures.runs c.deref.ensures.value);
}
