use Rattle.std.proofs.Common.{◌∷◌, [], Some, map, ap, ◌∙◌, sym, subst}
use Rattle.std.proofs.lemmas.Result.{on_ok_weaker}
use Rattle.packet.specs.Codes.{mark_of}
use Rattle.packet.specs.Lines.{entries_of}
use Rattle.packet.specs.Outboxes.{packets_on}
use Rattle.packet.specs.Readers.{readers}
use Rattle.protocol.specs.StageSteps.{append_each}
use Rattle.stage_steps.specs.Shards.{IsWhole, Shard}
use Rattle.stage_steps.specs.Told.{perhaps, told}
use Rattle.stage_steps.proofs.Marked.{each_told, marker_true}
use Rattle.stage_steps.proofs.shard.StageShard.tell_marker.Goals as goal

pub packets-requires-clause-truth : goal.packets-requires-clause-truth
packets-requires-clause-truth g c r there =
    let x : Shard = record { plan = c.self.inside.plan.now; shard = c.self.inside.shard; line = c.self.inside.line; rows = c.self.inside.rows; pending = c.self.inside.pending.items; marks = c.self.inside.marks } in
    let whole = subst IsWhole (sym c.self.view_is) c.requires.whole in
    marker_true x.plan x.shard (entries_of x.line) (mark_of c.args.marker) whole.fronts r

pub returns-clause-told : goal.returns-clause-told
returns-clause-told g c =
    let x : Shard = record { plan = c.self.inside.plan.now; shard = c.self.inside.shard; line = c.self.inside.line; rows = c.self.inside.rows; pending = c.self.inside.pending.items; marks = c.self.inside.marks } in
    let m = mark_of c.args.marker in
    let are = ap (map perhaps) c.in_ok-packets.ensures ∙ each_told x.plan x.shard (entries_of x.line) m (readers x.plan) in
    on_ok_weaker c.tell.result
    (λ t. t ∙ ap (append_each (packets_on c.args.out.now.packets)) (are ∙ ap (λ (x : Shard). map (λ r. told x.plan x.shard (entries_of x.line) (entries_of x.line) [] [] (Some m) r ∷ []) (readers x.plan)) c.self.view_is)) c.tell.ensures.told
