use Rattle.std.proofs.Common.{◌≡◌, ◌++◌, ◌∷◌, [], map, ap, ◌∙◌, arith, subst}
use Rattle.std.specs.List.{range_with_len}
use Rattle.plan.specs.Layouts.{ViewLayout}
use Rattle.packet.specs.Codes.{mark_in}
use Rattle.packet.specs.Lines.{entries_of}
use Rattle.stage_steps.specs.Told.{names_in, told_if}
use Rattle.stage_steps.proofs.Readers.{put_reader}
use Rattle.stage_steps.proofs.packets.push_view.Goals as goal

pub packet_to-requires-clause-truth : goal.packet_to-requires-clause-truth
packet_to-requires-clause-truth g c = c.requires.truth (record { view = c.args.view; shard = c.loop-shard.shard }) c.requires.there

pub loop-shard-preserved : goal.loop-shard-preserved
loop-shard-preserved g c =
    let n = c.args.news.now in
    put_reader (told_if c.args.each n.plan.now n.stage (entries_of n.from.now) (entries_of n.to.now) n.records.now (names_in n.names.now) (mark_in n.marker)) c.args.view c.args.all.now.items c.loop-shard.all.items c.push.new.self.items c.loop-shard.shard c.loop-shard.invariant
    (c.in_ok-push.ensures.items ∙ ap (λ x. c.loop-shard.all.items ++ x ∷ []) c.in_ok-packet.ensures)

pub returns : goal.returns
returns g c =
    let n = c.args.news.now in
    let count : c.loop-shard.shard ≡ c.view.result.now.shards = omega (arith, c.loop-shard-test.false, c.loop-shard.auto.shard-end, c.shards-shards.ensures) in
    let f = told_if c.args.each n.plan.now n.stage (entries_of n.from.now) (entries_of n.to.now) n.records.now (names_in n.names.now) (mark_in n.marker) in
    subst (λ k. c.loop-shard.all.items ≡ c.args.all.now.items ++ map f (map (λ j. record { view = c.args.view; shard = j }) (range_with_len 0 k))) (count ∙ ap (λ (v : ViewLayout). v.shards) c.view.ensures) c.loop-shard.invariant
