use Rattle.std.proofs.Common.{◌≡◌, length}
use Rattle.links.proofs.stops.Stops.new.Given as goal

abbrev pub invariant-loop : goal.invariant-loop
invariant-loop l = length l.flags.items ≡ l.counter
