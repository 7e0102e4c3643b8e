use Rattle.std.proofs.Common.{◌≡◌, cond, []}
use Rattle.row.specs.Cells.{datum_of}
use Rattle.row.specs.Groups.{equal}
use Rattle.row.specs.declared.value.Value.{Value}
use Rattle.partial.specs.States.{is_waiting, state_of}
use Rattle.packet.specs.Groups.{records_at}
use Rattle.right_rows.specs.Rights.{records_of}
use Rattle.right_rows.proofs.pieces.waiting_groups.Given as goal

abbrev pub invariant-loop-change : goal.invariant-loop-change
invariant-loop-change l = (k : Value) → records_at l.groups (datum_of k) ≡ cond (is_waiting (state_of equal l.kept k)) (records_of l.column (datum_of k) l.yielded) []
