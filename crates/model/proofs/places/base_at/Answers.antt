use Rattle.std.proofs.Common.{◌+◌, ◌<◌, sym, ◌∙◌, ap, subst, ℕ}
use Rattle.model.specs.Places.{base_count, layout_of, shard_of}
use Rattle.model.proofs.PlaceLaws.{base_range, base_layout, base_shard}
use Rattle.model.proofs.places.base_at.Goals as goal

pub returns-clause-range : goal.returns-clause-range
returns-clause-range c = subst (λ (b : ℕ). b < base_count c.args.plan.now) (sym (ap (λ (n : ℕ). n + c.args.shard) c.shards_before.ensures.count)) (base_range c.args.plan.now c.args.table c.args.shard c.requires.table c.requires.shard)

pub returns-clause-table : goal.returns-clause-table
returns-clause-table c = ap (layout_of c.args.plan.now) (ap (λ (n : ℕ). n + c.args.shard) c.shards_before.ensures.count) ∙ base_layout c.args.plan.now c.args.table c.args.shard c.requires.table c.requires.shard

pub returns-clause-shard : goal.returns-clause-shard
returns-clause-shard c = ap (shard_of c.args.plan.now) (ap (λ (n : ℕ). n + c.args.shard) c.shards_before.ensures.count) ∙ base_shard c.args.plan.now c.args.table c.args.shard c.requires.table c.requires.shard
