use Rattle.std.proofs.Common.{arith}
use Rattle.model.specs.Histories.{len_at}
use Rattle.plain.proofs.CutLoops.{every_length}
use Rattle.plain.proofs.cuts.is_line_at_most.Goals as goal

pub returns : goal.returns
returns c = every_length c.args.line.now (len_at c.args.cut.now c.args.stage) (λ j lt. c.loop-source.invariant j (omega (arith, c.loop-source-test.false, lt)))
