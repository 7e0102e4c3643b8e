use Rattle.std.proofs.Common.{◌≡◌, ◌<◌, true, Some, None, filter, length, refl, ap, sym, ◌∙◌, subst}
use Rattle.std.proofs.lemmas.Result.{IfOk-weaker}
use Rattle.std.specs.List.{list_all}
use Rattle.row.specs.Bags.{sorted}
use Rattle.row.specs.Cells.{datum_of, has, row_cmp}
use Rattle.plan.specs.Layouts.{view_at}
use Rattle.plan.specs.Outputs.{key_place}
use Rattle.model.specs.Queries.{part}
use Rattle.packet.specs.Lines.{AreOf, entries_of, plan_of}
use Rattle.packet.specs.Truth.{IsTrueStage}
use Rattle.protocol.specs.Stages.{behind, knows}
use Rattle.stage_sides.specs.Held.{output_over}
use Rattle.stage_steps.specs.Shards.{IsWhole, Shard, stage_of}
use Rattle.stage_steps.specs.Told.{answer_of}
use Rattle.stage_steps.proofs.Lines.{plan_is}
use Rattle.stage_steps.proofs.Parts.{part_here, piece_is, same_answer}
use Rattle.stage_steps.proofs.Truths.{answer_true}
use Rattle.stage_steps.proofs.shard.StageShard.piece.Goals as goal

pub new-requires-4-clause-of : goal.new-requires-4-clause-of
new-requires-4-clause-of g c =
    let x : Shard = record { plan = c.self.inside.plan.now; shard = c.self.inside.shard; line = c.self.inside.line; rows = c.self.inside.rows; pending = c.self.inside.pending.items; marks = c.self.inside.marks } in
    let whole = subst IsWhole (sym c.self.view_is) c.requires.whole in
    subst (λ l. AreOf (plan_of l) l) (sym c.in_ok-line.ensures) (subst (λ p. AreOf p x.line) (sym (plan_is x.plan x.line c.keeps_profile.ensures whole.of)) whole.of)

pub new-requires-4-clause-truth : goal.new-requires-4-clause-truth
new-requires-4-clause-truth g c =
    let x : Shard = record { plan = c.self.inside.plan.now; shard = c.self.inside.shard; line = c.self.inside.line; rows = c.self.inside.rows; pending = c.self.inside.pending.items; marks = c.self.inside.marks } in
    let whole = subst IsWhole (sym c.self.view_is) c.requires.whole in
    let plan = plan_is x.plan x.line c.keeps_profile.ensures whole.of in
    let k = c.args.ask.key in
    let all = subst (λ (x : Shard). list_all (knows (stage_of x).right) (behind (stage_of x) c.args.reader.view k) ≡ true) (sym c.self.view_is) c.requires.known in
    let view = subst (λ (x : Shard). c.args.reader.view < length x.plan.views) (sym c.self.view_is) c.requires.there in
    let rows = c.in_ok-rows.ensures
    ∙ (ap (λ k. sorted row_cmp (filter (has (key_place x.rows.plan.right x.rows.plan.aggregate (view_at x.rows.plan c.args.reader.view).key) k) (output_over x.rows))) c.key.ensures
    ∙ part_here x c.keeps_profile.ensures c.args.alloc whole c.keeps_order.ensures.column c.keeps_order.ensures.known c.args.reader.view view k all) in
    let same = same_answer x.plan x.shard c.args.reader c.in_ok-lengths.lengths.items x.line c.in_ok-line.line c.args.ask.tag k
    (record { changes = c.new.result; evicts = c.new-2.result; piece = Some c.new-3.result; marker = None }) plan c.in_ok-line.ensures c.in_ok-lengths.ensures c.new.ensures.items c.new-2.ensures.items
    (ap Some (piece_is c.new-3.result c.tag-tag.result.0 c.args.ask.tag (datum_of c.into_key.result) k c.in_ok-rows.rows.items (sorted row_cmp (part x.plan x.shard (entries_of x.line) c.args.reader.view k)) c.new-3.ensures c.tag-tag.ensures c.into_key.ensures rows)) refl in
    subst IsTrueStage (sym same) (answer_true x.plan x.shard (entries_of x.line) c.args.ask.tag c.args.reader.view c.args.reader.shard k whole.fronts)

pub returns : goal.returns
returns g c =
    let x : Shard = record { plan = c.self.inside.plan.now; shard = c.self.inside.shard; line = c.self.inside.line; rows = c.self.inside.rows; pending = c.self.inside.pending.items; marks = c.self.inside.marks } in
    let whole = subst IsWhole (sym c.self.view_is) c.requires.whole in
    let plan = plan_is x.plan x.line c.keeps_profile.ensures whole.of in
    let k = c.args.ask.key in
    let all = subst (λ (x : Shard). list_all (knows (stage_of x).right) (behind (stage_of x) c.args.reader.view k) ≡ true) (sym c.self.view_is) c.requires.known in
    let view = subst (λ (x : Shard). c.args.reader.view < length x.plan.views) (sym c.self.view_is) c.requires.there in
    let rows = c.in_ok-rows.ensures
    ∙ (ap (λ k. sorted row_cmp (filter (has (key_place x.rows.plan.right x.rows.plan.aggregate (view_at x.rows.plan c.args.reader.view).key) k) (output_over x.rows))) c.key.ensures
    ∙ part_here x c.keeps_profile.ensures c.args.alloc whole c.keeps_order.ensures.column c.keeps_order.ensures.known c.args.reader.view view k all) in
    let same = same_answer x.plan x.shard c.args.reader c.in_ok-lengths.lengths.items x.line c.in_ok-line.line c.args.ask.tag k
    (record { changes = c.new.result; evicts = c.new-2.result; piece = Some c.new-3.result; marker = None }) plan c.in_ok-line.ensures c.in_ok-lengths.ensures c.new.ensures.items c.new-2.ensures.items
    (ap Some (piece_is c.new-3.result c.tag-tag.result.0 c.args.ask.tag (datum_of c.into_key.result) k c.in_ok-rows.rows.items (sorted row_cmp (part x.plan x.shard (entries_of x.line) c.args.reader.view k)) c.new-3.ensures c.tag-tag.ensures c.into_key.ensures rows)) refl in
    IfOk-weaker c.new-4.result _ _ (λ z own. own ∙ (same ∙ ap (λ (x : Shard). answer_of x.plan x.shard (entries_of x.line) c.args.ask.tag c.args.reader.view c.args.reader.shard k) c.self.view_is)) c.new-4.ensures
