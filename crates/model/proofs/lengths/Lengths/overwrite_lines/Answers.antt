use Rattle.std.proofs.Common.{◌<◌, length, rules}
use Rattle.model.proofs.Copies.{as_long, one_more, still_as_long}
use Rattle.model.proofs.lengths.Lengths.overwrite_lines.Goals as goal

pub overwrite_line-requires-clause-long : goal.overwrite_line-requires-clause-long
overwrite_line-requires-clause-long c =
    let lt : c.loop-stage.stage < length c.args.other.now = search rules in
    as_long c.loop-stage.self c.args.other.now c.loop-stage.stage c.line.result.now c.line.ensures c.loop-stage.invariant.shape lt

pub loop-stage-preserved : goal.loop-stage-preserved
loop-stage-preserved c =
    let lt : c.loop-stage.stage < length c.args.other.now = search rules in
    record {
      done = rw c.overwrite_line.ensures (one_more c.loop-stage.self c.args.other.now c.loop-stage.stage c.line.result.now c.line.ensures c.loop-stage.invariant.shape lt c.loop-stage.invariant.done);
      shape = rw c.overwrite_line.ensures (still_as_long c.loop-stage.self c.args.other.now c.loop-stage.stage c.line.result.now c.line.ensures c.loop-stage.invariant.shape lt);
    }
