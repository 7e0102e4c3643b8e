use Rattle.std.proofs.Common.{◌<◌, length, slice_index, ap, ◌∙◌, arith}
use Rattle.model.specs.Tables.{with_length}
use Rattle.model.proofs.Copies.{so_far_more}
use Rattle.model.proofs.lengths.Lengths.overwrite_line.Goals as goal

pub loop-source-preserved : goal.loop-source-preserved
loop-source-preserved c =
    let line = c.args.line.now in
    let source = c.loop-source.source in
    let lt : source < length line = omega arith in
    c.set.ensures
    ∙ (ap (λ lines. with_length lines c.args.stage source (slice_index line source)) c.loop-source.invariant
    ∙ so_far_more c.args.self.now c.args.stage line c.requires.stage c.requires.long source lt)
