use Rattle.std.proofs.Common.{◌∙◌, ap}
use Rattle.row.specs.Cells.{datum_of}
use Rattle.row.specs.Groups.{equal}
use Rattle.partial.specs.States.{is_waiting, state_of}
use Rattle.packet.specs.Groups.{records_at}
use Rattle.right_rows.proofs.Taken.{none_yet, one_more}
use Rattle.right_rows.proofs.pieces.waiting_groups.Goals as goal

pub loop-change-init : goal.loop-change-init
loop-change-init c = λ k. ap (λ g. records_at g (datum_of k)) c.new-groups.ensures ∙ none_yet (is_waiting (state_of equal c.args.kept.now k))

pub loop-change-preserved : goal.loop-change-preserved
loop-change-preserved c = λ k. c.in_ok-put_waiting.ensures k ∙ one_more c.args.column (datum_of k) c.loop-change.yielded c.in-Some.change (is_waiting (state_of equal c.args.kept.now k)) (records_at c.loop-change.groups (datum_of k)) (c.loop-change.invariant k)
