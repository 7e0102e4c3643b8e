use Rattle.std.proofs.Common.{◌≡◌, ◌+◌, ap, ◌∙◌, subst, arith, length, flat_map}
use Rattle.std.specs.List.{range_with_len}
use Rattle.row.proofs.BagLemmas.{Each-at}
use Rattle.plan.specs.Facts.{IsView}
use Rattle.plan.specs.Layouts.{ViewLayout, no_view, view_at}
use Rattle.packet.specs.Readers.{readers_of}
use Rattle.stage_steps.proofs.Places.{edge_below, edge_place, edge_more}
use Rattle.stage_steps.proofs.edges.edge_to.Goals as goal

pub loop-view-preserved : goal.loop-view-preserved
loop-view-preserved c =
    let count = c.shards-edge.ensures ∙ ap (λ (v : ViewLayout). v.shards) c.view.ensures in
    let v : IsView c.args.plan.now (view_at c.args.plan.now c.loop-view.view) = Each-at (IsView c.args.plan.now) c.args.plan.now.views c.keeps_profile.ensures.views c.loop-view.view no_view (omega (arith, c.loop-view-test.true, c.requires.view)) in
    (edge_more c.args.plan.now c.args.reader.shard c.loop-view.view c.loop-view.edge c.shards-edge.result c.loop-view.invariant.0 count, omega (arith, c.loop-view.invariant.1, count, v.shards.most_of))

pub returns-clause-below : goal.returns-clause-below
returns-clause-below c =
    let n : c.loop-view.view ≡ c.args.reader.view = omega (arith, c.loop-view-test.false, c.loop-view.auto.view-end) in
    edge_below c.args.plan.now c.args.reader.view c.args.reader.shard c.loop-view.edge (subst (λ k. c.loop-view.edge ≡ c.args.reader.shard + length (flat_map (readers_of c.args.plan.now) (range_with_len 0 k))) n c.loop-view.invariant.0) c.requires.view c.requires.shard

pub returns-clause-place : goal.returns-clause-place
returns-clause-place c =
    let n : c.loop-view.view ≡ c.args.reader.view = omega (arith, c.loop-view-test.false, c.loop-view.auto.view-end) in
    edge_place c.args.plan.now c.args.reader.view c.args.reader.shard c.loop-view.edge (subst (λ k. c.loop-view.edge ≡ c.args.reader.shard + length (flat_map (readers_of c.args.plan.now) (range_with_len 0 k))) n c.loop-view.invariant.0) c.requires.view c.requires.shard
