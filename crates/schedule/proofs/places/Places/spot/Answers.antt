use Rattle.std.proofs.Common.{sym, ◌∙◌}
use Rattle.schedule.proofs.Domains.{base_within}
use Rattle.schedule.proofs.places.Places.spot.Goals as goal

pub base_at-requires-clause-table : goal.base_at-requires-clause-table
base_at-requires-clause-table c = (base_within c.self.inside.plan.now c.args.domain c.in-Base.table c.in-Base.shard c.in-Base.is (sym c.has_domain.ensures ∙ c.if-not-has_domain.false)).0

pub base_at-requires-clause-shard : goal.base_at-requires-clause-shard
base_at-requires-clause-shard c = (base_within c.self.inside.plan.now c.args.domain c.in-Base.table c.in-Base.shard c.in-Base.is (sym c.has_domain.ensures ∙ c.if-not-has_domain.false)).1
