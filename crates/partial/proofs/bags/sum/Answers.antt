use Rattle.std.proofs.Common.{arith, []}
use Rattle.partial.specs.BagLaws.{times-joined_middle}
use Rattle.partial.proofs.bags.sum.Goals as goal

pub loop-piece-preserved : goal.loop-piece-preserved
loop-piece-preserved c = record {
  counts = λ z. omega (arith, c.in_ok-all.ensures z, c.loop-piece.invariant.counts z, times-joined_middle z c.loop-piece.yielded [] c.in-Some.piece);
}
