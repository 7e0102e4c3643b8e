use Rattle.std.proofs.Common.{◌<◌, arith, ap, ◌∙◌, below_more}
use Rattle.plan.specs.Layouts.{view_at, ViewLayout}
use Rattle.plain.proofs.own.is_view_past.Goals as goal

pub returns-then-not-is_past_all : goal.returns-then-not-is_past_all
returns-then-not-is_past_all c = λ each.
    let lt : c.loop-shard.shard < (view_at c.args.plan.now c.args.view).shards = omega (arith, c.loop-shard-test.true, c.shards-shard-end.ensures ∙ ap (λ (v : ViewLayout). v.shards) c.view.ensures) in
    c.if-not-is_past_all.ensures (rw c.floor_at.ensures (each c.loop-shard.shard lt))

pub loop-shard-preserved : goal.loop-shard-preserved
loop-shard-preserved c = below_more _ _ c.loop-shard.invariant (rw (← c.floor_at.ensures) c.if-not-is_past_all.ensures)

pub returns : goal.returns
returns c = λ j lt. c.loop-shard.invariant j (omega (arith, lt, c.loop-shard-test.false, c.shards-shard-end.ensures ∙ ap (λ (v : ViewLayout). v.shards) c.view.ensures))
