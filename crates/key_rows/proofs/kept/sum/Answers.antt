use Rattle.std.proofs.Common.{arith, ap, []}
use Rattle.row.specs.Bags.{times}
use Rattle.row.specs.Cells.{row_cmp}
use Rattle.partial.specs.BagLaws.{times-joined_middle}
use Rattle.key_rows.proofs.kept.sum.Goals as goal

pub loop-piece-preserved : goal.loop-piece-preserved
loop-piece-preserved c = record {
  counts = λ z. omega (arith, c.in_ok-append.ensures.counts z, c.loop-piece.invariant.counts z, ap (times row_cmp z) c.in_ok-into_bag.ensures, times-joined_middle z c.loop-piece.yielded [] c.in-Some.piece);
}
