use Rattle.std.proofs.Common.{◌≡◌, map}
use Rattle.row.specs.Cells.{datum_of}
use Rattle.view_domain.specs.Taken.{asks_by}
use Rattle.view_domain.proofs.asks.requests_for.Given as goal

abbrev pub invariant-loop-key : goal.invariant-loop-key
invariant-loop-key l = l.requests.items ≡ asks_by l.tag.0 (map datum_of l.yielded)
