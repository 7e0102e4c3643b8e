use Rattle.std.proofs.Common.{◌≡◌, []}
use Rattle.document.specs.Fields.{condition_at}
use Rattle.document.proofs.Each.{from_place}
use Rattle.document.proofs.stage.conditions_of.Given as goal

abbrev pub invariant-loop-at : goal.invariant-loop-at
invariant-loop-at l = from_place (condition_at l.columns) l.conditions.items l.list l.at ≡ from_place (condition_at l.columns) [] l.list 0
