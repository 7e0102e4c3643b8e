use Rattle.std.proofs.Common.{◌∙◌}
use Rattle.std.proofs.lemmas.Result.{on_ok_weaker}
use Rattle.row.specs.BagChanges.{with_records}
use Rattle.row.specs.Groups.{equal}
use Rattle.partial.specs.States.{state_of}
use Rattle.packet.proofs.GroupChanges.{after_items, taken_stands}
use Rattle.packet.proofs.groups.Group.apply_at.Goals as goal

pub returns-clause-state : goal.returns-clause-state
returns-clause-state c = rw (← c.self.view_is) (on_ok_weaker c.apply.result (λ own. own ∙ after_items (λ v. v.items) with_records c.args.source c.self.inside.records (state_of equal c.args.kept.now c.args.key.now)) c.apply.ensures.applied)

pub returns-clause-stands : goal.returns-clause-stands
returns-clause-stands c = taken_stands c.args.source c.args.key.now c.args.self.now c.args.kept.now c.apply.new.self c.apply.result (returns-clause-state c) c.apply.ensures.others c.apply.ensures.order c.apply.ensures.err
