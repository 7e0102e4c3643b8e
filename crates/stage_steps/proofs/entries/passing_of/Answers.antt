use Rattle.std.proofs.Common.{rules}
use Rattle.std.proofs.lemmas.Fn.{filter_same}
use Rattle.row.specs.declared.record.Record.{Record}
use Rattle.plan.specs.Outputs.{pass}
use Rattle.stage_steps.proofs.entries.passing_of.Goals as goal

pub returns : goal.returns
returns c =
    let test = λ (r : Record). pass c.args.side.now.conditions r.row in
    filter_same _ test _ (λ x b f' k. search rules) _ _ c.retain.ensures.filtered
