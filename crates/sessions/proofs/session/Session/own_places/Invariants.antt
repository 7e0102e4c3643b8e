use Rattle.std.proofs.Common.{◌≡◌, flat_map, take}
use Rattle.model.specs.Tables.{places_of}
use Rattle.sessions.specs.Callers.{accepted_at}
use Rattle.sessions.specs.Fences.{place_of}
use Rattle.sessions.proofs.session.Session.own_places.Given as goal

abbrev pub invariant-loop-base : goal.invariant-loop-base
invariant-loop-base g l = places_of l.own.items ≡ flat_map (λ b. place_of b (accepted_at l.fn.self.accepted b)) (take l.base-index l.base-items)
