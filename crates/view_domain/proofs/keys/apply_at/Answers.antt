use Rattle.std.proofs.Common.{◌∙◌, ap}
use Rattle.std.proofs.lemmas.Result.{on_ok_weaker}
use Rattle.row.specs.BagChanges.{with_records}
use Rattle.row.specs.Groups.{equal}
use Rattle.partial.specs.States.{after_change, state_of}
use Rattle.packet.proofs.GroupChanges.{after_items, taken_stands}
use Rattle.view_domain.proofs.keys.apply_at.Goals as goal

pub returns-clause-state : goal.returns-clause-state
returns-clause-state c =
    let st = state_of equal c.args.kept.now c.args.key.now in
    on_ok_weaker c.apply.result
    (λ own. own ∙ (after_items (λ v. v.items) with_records c.args.source c.records.result.now st ∙ ap (λ g. after_change with_records c.args.source g st) c.records.ensures)) c.apply.ensures.applied

pub returns-clause-stands : goal.returns-clause-stands
returns-clause-stands c = taken_stands c.args.source c.args.key.now c.args.group.now c.args.kept.now c.apply.new.self c.apply.result (returns-clause-state c) c.apply.ensures.others c.apply.ensures.order c.apply.ensures.err
