use Rattle.std.proofs.Common.{◌≡◌, map, take}
use Rattle.schedule.specs.Codes.{reader_in}
use Rattle.view_domain.specs.Domains.{new_view}
use Rattle.machine.proofs.starts.new_views.Given as goal

abbrev pub invariant-loop-reader : goal.invariant-loop-reader
invariant-loop-reader g l = l.views.items ≡ map (λ r. new_view l.places (reader_in r)) (take l.reader-index l.reader-items)
