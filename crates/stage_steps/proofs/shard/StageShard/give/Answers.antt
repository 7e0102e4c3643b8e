use Rattle.std.proofs.Common.{◌≡◌, ◌<◌, ◌∷◌, [], cond, length, map, ap, ◌∙◌, subst}
use Rattle.std.proofs.lemmas.Result.{on_ok_weaker}
use Rattle.row.specs.Cells.{datum_of}
use Rattle.plan.specs.Layouts.{Layout, view_at}
use Rattle.packet.specs.Messages.{to_one}
use Rattle.packet.specs.Readers.{is_reader, readers, view_of}
use Rattle.stage_steps.specs.Shards.{Shard}
use Rattle.stage_steps.proofs.Gives.{put_given, shard_is}
use Rattle.stage_steps.proofs.shard.StageShard.give.Goals as goal

pub returns-clause-done : goal.returns-clause-done
returns-clause-done g c d put =
    let x = c.args.self.now in
    let view = c.view_of-view.ensures ∙ ap view_of c.tag.ensures in
    let plan = ap (λ (x : Shard). x.plan) c.self.view_is in
    let at = shard_is x.plan c.shard_of-shard.result c.view_of-view.result (view_of c.args.ask.tag) c.shards.result (datum_of c.key.result.now) c.args.ask.key c.view.result.now c.shard_of-shard.ensures.shard c.key.ensures c.shards.ensures (c.view.ensures ∙ ap (λ (p : Layout). view_at p c.view_of-view.result) plan) view in
    on_ok_weaker c.tell_one.result (λ told. put_given x c.args.ask d c.args.out.now c.tell_one.new.self put c.requires.edges c.view_of-view.result c.shard_of-shard.result c.edge_to.result c.in_ok-packet.packet view at c.in_ok-packet.ensures (subst (λ (p : Layout). c.edge_to.result < length (readers p)) plan c.edge_to.ensures.below) (subst (λ (p : Layout). to_one (length (readers p)) c.edge_to.result (c.in_ok-packet.packet ∷ []) ≡ map (λ r. cond (is_reader c.view_of-view.result c.shard_of-shard.result r) (c.in_ok-packet.packet ∷ []) []) (readers p)) plan (c.edge_to.ensures.place (c.in_ok-packet.packet ∷ []))) told c.tell_one.ensures.requests) c.tell_one.ensures.told
