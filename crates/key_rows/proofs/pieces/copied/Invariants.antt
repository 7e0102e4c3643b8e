use Rattle.std.proofs.Common.{◌≡◌, take}
use Rattle.key_rows.proofs.pieces.copied.Given as goal

abbrev pub invariant-loop-piece : goal.invariant-loop-piece
invariant-loop-piece l = l.copies.items ≡ take l.piece-index l.pieces
