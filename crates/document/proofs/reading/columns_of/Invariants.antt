use Rattle.std.proofs.Common.{◌≡◌, []}
use Rattle.document.specs.Fields.{column_at}
use Rattle.document.proofs.Each.{from_place}
use Rattle.document.proofs.reading.columns_of.Given as goal

abbrev pub invariant-loop-value : goal.invariant-loop-value
invariant-loop-value l = from_place column_at l.columns.items l.list l.value-index ≡ from_place column_at [] l.list 0
