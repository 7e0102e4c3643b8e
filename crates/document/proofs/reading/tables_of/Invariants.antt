use Rattle.std.proofs.Common.{◌≡◌, []}
use Rattle.document.specs.Fields.{table_at}
use Rattle.document.proofs.Each.{from_place}
use Rattle.document.proofs.reading.tables_of.Given as goal

abbrev pub invariant-loop-at : goal.invariant-loop-at
invariant-loop-at l = from_place table_at l.tables.items l.list l.at ≡ from_place table_at [] l.list 0
