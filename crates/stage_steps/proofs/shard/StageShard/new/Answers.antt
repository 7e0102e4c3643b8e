use Rattle.stage_steps.proofs.Starting.{new_shard, new_stage}
use Rattle.stage_steps.proofs.shard.StageShard.new.Goals as goal

pub returns-clause-whole : goal.returns-clause-whole
returns-clause-whole g c =
    new_shard c.args.plan.now c.args.shard c.args.line c.in_ok-rows.rows c.sources-sources.result c.right_source.result c.new-2.result.items c.new-3.result c.requires.shard c.requires.of c.requires.empty c.sources-sources.ensures c.right_source.ensures c.in_ok-rows.ensures.plan c.in_ok-rows.ensures.lefts c.in_ok-rows.ensures.right c.in_ok-rows.ensures.found c.new-2.ensures.items c.new-3.ensures

pub returns-clause-stage : goal.returns-clause-stage
returns-clause-stage g c =
    new_stage c.args.plan.now c.args.shard c.args.line c.in_ok-rows.rows c.sources-sources.result c.right_source.result c.new-2.result.items c.new-3.result c.requires.shard c.requires.of c.requires.empty c.sources-sources.ensures c.right_source.ensures c.in_ok-rows.ensures.plan c.in_ok-rows.ensures.lefts c.in_ok-rows.ensures.right c.in_ok-rows.ensures.found c.new-2.ensures.items c.new-3.ensures
