use Rattle.std.proofs.Common.{◌≡◌, []}
use Rattle.document.specs.Fields.{view_at}
use Rattle.document.proofs.Each.{from_place}
use Rattle.document.proofs.reading.views_of.Given as goal

abbrev pub invariant-loop-at : goal.invariant-loop-at
invariant-loop-at l = from_place (view_at l.lefts l.rights) l.views.items l.list l.at ≡ from_place (view_at l.lefts l.rights) [] l.list 0
