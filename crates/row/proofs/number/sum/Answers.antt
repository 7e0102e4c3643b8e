use Rattle.std.proofs.Common.{arith}
use Rattle.std.proofs.lemmas.Int.{ints}
use Rattle.row.proofs.Sums.{IsBetween, sum_more, next_between}
use Rattle.row.proofs.number.sum.Goals as goal

pub overflow_add-sum : goal.overflow_add-sum
overflow_add-sum c =
    let b : IsBetween c.number_at-sum.result = rw c.number_at-sum.ensures (next_between c.args.column _ _ c.row-item.result c.loop-row-test.true c.row-item.is c.requires) in
    omega (arith, ints)

pub loop-row-preserved : goal.loop-row-preserved
loop-row-preserved c =
    let b : IsBetween c.number_at-sum.result = rw c.number_at-sum.ensures (next_between c.args.column _ _ c.row-item.result c.loop-row-test.true c.row-item.is c.requires) in
    let more = sum_more c.args.column c.args.rows.now c.loop-row.row-index c.row-item.result c.loop-row-test.true c.row-item.is in
    record { summed = omega (arith, ints); low = omega (arith, ints); high = omega (arith, ints) }
