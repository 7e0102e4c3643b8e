use Rattle.std.proofs.Common.{ap, ◌∙◌}
use Rattle.plan.specs.Layouts.{TableLayout, ViewLayout}
use Rattle.schedule.proofs.Domains.{base_had, base_away, stage_had, view_had, view_away}
use Rattle.schedule.proofs.places.has_domain.Goals as goal

pub returns-then-table-tables : goal.returns-then-table-tables
returns-then-table-tables c =
    base_had c.args.plan.now c.args.domain c.in-Base.table c.in-Base.shard c.tables.result c.shards.result c.in-Base.is c.tables.ensures.count c.if-table-tables.true (c.shards.ensures ∙ ap (λ (t : TableLayout). t.shards) c.table.ensures.table)

pub returns-else-table-tables : goal.returns-else-table-tables
returns-else-table-tables c = base_away c.args.plan.now c.args.domain c.in-Base.table c.in-Base.shard c.tables.result c.in-Base.is c.tables.ensures.count c.if-table-tables.false

pub returns-in-Stage : goal.returns-in-Stage
returns-in-Stage c = stage_had c.args.plan.now c.args.domain c.in-Stage.shard c.stages.result c.in-Stage.is c.stages.ensures

pub returns-then-view-views : goal.returns-then-view-views
returns-then-view-views c =
    view_had c.args.plan.now c.args.domain c.in-View.view c.in-View.shard c.views.result c.shards-then-view-views.result c.in-View.is c.views.ensures c.if-view-views.true (c.shards-then-view-views.ensures ∙ ap (λ (v : ViewLayout). v.shards) c.view.ensures)

pub returns-else-view-views : goal.returns-else-view-views
returns-else-view-views c = view_away c.args.plan.now c.args.domain c.in-View.view c.in-View.shard c.views.result c.in-View.is c.views.ensures c.if-view-views.false
