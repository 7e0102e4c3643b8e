use Rattle.std.proofs.Common.{rules}
use Rattle.std.proofs.lemmas.Fn.{filter_same}
use Rattle.row.specs.declared.record.Record.{Record}
use Rattle.stage_sides.specs.Kept.{is_kept}
use Rattle.stage_sides.proofs.kept.kept_by.Goals as goal

pub returns : goal.returns
returns c =
    let test = λ (r : Record). is_kept c.args.plan.now c.args.side.now r.row in
    filter_same _ test _ (λ x b f' k. search rules) _ _ c.retain.ensures.filtered
