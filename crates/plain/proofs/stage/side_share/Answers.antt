use Rattle.std.proofs.Common.{rules, ◌≡◌, ◌∙◌, ap, filter}
use Rattle.std.proofs.lemmas.Fn.{filter_same}
use Rattle.row.specs.Cells.{has_shard}
use Rattle.plan.specs.Layouts.{table_at}
use Rattle.plan.specs.Outputs.{pass}
use Rattle.model.specs.Logs.{rows_of}
use Rattle.plain.proofs.stage.side_share.Goals as goal

pub returns : goal.returns
returns c =
    let p = c.args.plan.now in
    let side = c.args.side.now in
    let here = has_shard side.key p.stages c.args.stage in
    let whole : c.in_ok-rows.rows.items ≡ rows_of (table_at p side.table).key c.args.front.now = search rules in
    filter_same _ (pass side.conditions) _ (λ x b f' k. search rules) _ _ c.retain-2.ensures.filtered
    ∙ ap (filter (pass side.conditions))
    (filter_same _ here _ (λ x b f' k. search rules) _ _ c.retain.ensures.filtered ∙ ap (filter here) whole)
