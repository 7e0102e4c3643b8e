use Rattle.std.proofs.Common.{rules, ◌==◌, length, ap, sym, ◌∙◌}
use Rattle.std.proofs.lemmas.Fn.{filter_same}
use Rattle.plan.specs.Outputs.{pass}
use Rattle.stage_sides.proofs.Keeps.{none_fails}
use Rattle.stage_sides.proofs.kept.passing.Goals as goal

pub returns-then-is_empty : goal.returns-then-is_empty
returns-then-is_empty c = none_fails c.args.side.now.conditions c.args.rows.items (ap (λ cs. length cs == 0) (sym c.conditions.ensures) ∙ (sym c.is_empty.ensures ∙ c.if-is_empty.true))

pub returns : goal.returns
returns c =
    let test = pass c.args.side.now.conditions in
    c.shrink_to_fit.ensures.items
    ∙ filter_same _ test _ (λ x b f' k. search rules) _ _ c.retain.ensures.filtered
