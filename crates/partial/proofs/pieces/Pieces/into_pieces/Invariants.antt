use Rattle.std.proofs.Common.{◌≡◌}
use Rattle.partial.specs.States.{somes}
use Rattle.partial.proofs.pieces.Pieces.into_pieces.Given as goal

abbrev pub invariant-loop-place : goal.invariant-loop-place
invariant-loop-place g l = l.all.items ≡ somes l.yielded
