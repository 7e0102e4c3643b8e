use Rattle.std.proofs.Common.{◌<◌, ◌≤◌, filter, length, map, ap, sym, ◌∙◌, subst, arith}
use Rattle.std.proofs.lemmas.Result.{on_ok_weaker}
use Rattle.row.specs.Cells.{cell_at, datum_of, has}
use Rattle.plan.specs.Layouts.{view_at}
use Rattle.packet.specs.Outboxes.{packets_on}
use Rattle.packet.specs.Readers.{readers}
use Rattle.protocol.specs.StageSteps.{append_each}
use Rattle.stage_sides.specs.Held.{IsSetOf}
use Rattle.stage_steps.specs.Shards.{IsWhole, Shard, gone_names, gone_to}
use Rattle.stage_steps.specs.Told.{names_in}
use Rattle.stage_steps.proofs.Names.{gone_all, gone_true, names_all, names_more}
use Rattle.stage_steps.proofs.shard.StageShard.tell_gone.Goals as goal

pub loop-view-preserved : goal.loop-view-preserved
loop-view-preserved g c =
    let x = c.args.self.now in
    let k = datum_of c.args.key.now in
    let lt : c.loop-view.view < length x.plan.views = subst (λ (x : Shard). c.loop-view.view < length x.plan.views) c.self.view_is (omega (arith, c.loop-view-test.true, c.views-view-end.ensures)) in
    let set = subst (λ (x : Shard). IsSetOf (map (λ l. cell_at l (view_at x.rows.plan c.loop-view.view).key) (filter (has x.rows.plan.left.key k) x.rows.lefts)) (map datum_of c.in_ok-ahead.field-0.items)) c.self.view_is c.in_ok-ahead.ensures in
    names_more x k c.loop-view.view c.loop-view.names.items c.push.new.self.items c.in_ok-ahead.field-0 c.requires.whole lt c.loop-view.invariant c.in_ok-push.ensures.items set

pub packets-requires-clause-truth : goal.packets-requires-clause-truth
packets-requires-clause-truth g c r lt =
    let k = datum_of c.args.key.now in
    let all : length c.args.self.now.plan.views ≤ c.loop-view.view = subst (λ (x : Shard). length x.plan.views ≤ c.loop-view.view) c.self.view_is (omega (arith, c.loop-view-test.false, c.views-view-end.ensures)) in
    let is = names_all c.args.self.now k c.loop-view.view c.loop-view.names.items all c.loop-view.invariant in
    gone_true _ k (names_in c.deref.result.now) (subst IsWhole (sym c.self.view_is) c.requires.whole) (ap names_in c.deref.ensures.value ∙ (is ∙ ap (λ (x : Shard). gone_names x k) (sym c.self.view_is))) r

pub returns-clause-told : goal.returns-clause-told
returns-clause-told g c =
    let k = datum_of c.args.key.now in
    let all : length c.args.self.now.plan.views ≤ c.loop-view.view = subst (λ (x : Shard). length x.plan.views ≤ c.loop-view.view) c.self.view_is (omega (arith, c.loop-view-test.false, c.views-view-end.ensures)) in
    let is = names_all c.args.self.now k c.loop-view.view c.loop-view.names.items all c.loop-view.invariant in
    let x : Shard = record { plan = c.self.inside.plan.now; shard = c.self.inside.shard; line = c.self.inside.line; rows = c.self.inside.rows; pending = c.self.inside.pending.items; marks = c.self.inside.marks } in
    let are = gone_all x k (names_in c.deref.result.now) c.in_ok-packets.field-0.items (ap names_in c.deref.ensures.value ∙ (is ∙ ap (λ (x : Shard). gone_names x k) (sym c.self.view_is))) c.in_ok-packets.ensures in
    on_ok_weaker c.tell.result (λ t. t ∙ ap (append_each (packets_on c.args.out.now.packets)) (are ∙ ap (λ (x : Shard). map (gone_to x k) (readers x.plan)) c.self.view_is)) c.tell.ensures.told
