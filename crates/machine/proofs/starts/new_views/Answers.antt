use Rattle.std.proofs.Common.{map, slice_index_or, refl, ap, sym, ◌∙◌, subst}
use Rattle.row.specs.Bags.{Each}
use Rattle.packet.specs.Lines.{AreOf}
use Rattle.packet.specs.declared.reader.Reader.{Reader}
use Rattle.schedule.specs.Codes.{reader_in}
use Rattle.view_domain.specs.Domains.{new_view}
use Rattle.packet.proofs.Copies.{cut_of, cut_size, cut_made}
use Rattle.view_domain.proofs.Fresh.{view_made}
use Rattle.machine.proofs.Starting.{reader_there, taken_more, taken_all, map_both}
use Rattle.machine.proofs.starts.new_views.Goals as goal

abbrev none : Reader
none = record { view = 0; shard = 0 }

pub new-requires-clause-view : goal.new-requires-clause-view
new-requires-clause-view g c =
    let shards = c.readers-reader-items.result.now in
    reader_there c.args.places.now c.plan-plan.result.now shards c.loop-reader.reader-index _ none c.plan-plan.ensures c.readers-reader-items.ensures c.loop-reader-test.true refl

pub new-requires-clause-stages : goal.new-requires-clause-stages
new-requires-clause-stages g c =
    cut_size c.plan-plan.result.now c.in_ok-cut.cut.items (cut_made c.args.places.now c.plan-plan.result.now _ c.args.line.now c.in_ok-cut.cut.items c.plan-plan.ensures c.stages.ensures c.requires c.in_ok-cut.ensures)

pub new-requires-clause-of : goal.new-requires-clause-of
new-requires-clause-of g c =
    let q = c.plan-plan.result.now in
    subst (Each (AreOf q)) (sym (cut_made c.args.places.now q _ c.args.line.now c.in_ok-cut.cut.items c.plan-plan.ensures c.stages.ensures c.requires c.in_ok-cut.ensures)) (cut_of q q.stages)

pub loop-reader-preserved : goal.loop-reader-preserved
loop-reader-preserved g c =
    let p = c.args.places.now in
    let q = c.plan-plan.result.now in
    let shards = c.readers-reader-items.result.now in
    let cut = c.in_ok-cut.cut.items in
    let made = cut_made p q c.stages.result c.args.line.now cut c.plan-plan.ensures c.stages.ensures c.requires c.in_ok-cut.ensures in
    taken_more (λ r. new_view p (reader_in r)) shards c.loop-reader.reader-index none c.loop-reader.views.items c.push.new.self.items c.in_ok-new.field-0 c.loop-reader-test.true c.loop-reader.invariant
    (view_made p q (reader_in (slice_index_or shards c.loop-reader.reader-index none)) cut c.in_ok-new.field-0 c.plan-plan.ensures made c.in_ok-new.ensures) c.in_ok-push.ensures.items

pub returns : goal.returns
returns g c =
    let p = c.args.places.now in
    c.loop-reader.invariant ∙ (taken_all (λ r. new_view p (reader_in r)) c.readers-reader-items.result.now c.loop-reader.reader-index c.loop-reader-test.false
    ∙ (sym (map_both (new_view p) reader_in (λ r. new_view p (reader_in r)) (λ r. refl) c.readers-reader-items.result.now) ∙ ap (map (new_view p)) c.readers-reader-items.ensures))
