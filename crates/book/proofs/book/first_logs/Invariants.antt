use Rattle.std.proofs.Common.{◌≡◌}
use Rattle.book.specs.Rights.{empty_fronts}
use Rattle.book.proofs.book.first_logs.Given as goal

abbrev pub invariant-loop-base : goal.invariant-loop-base
invariant-loop-base g l = l.logs.items ≡ empty_fronts l.base
