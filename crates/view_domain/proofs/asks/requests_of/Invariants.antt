use Rattle.std.proofs.Common.{◌≡◌, replicate}
use Rattle.row.specs.Cells.{datum_of}
use Rattle.view_domain.proofs.asks.requests_of.Given as goal

abbrev pub invariant-loop : goal.invariant-loop
invariant-loop l = l.requests.items ≡ replicate l.counter (record { tag = l.tag.0; key = datum_of l.key })
