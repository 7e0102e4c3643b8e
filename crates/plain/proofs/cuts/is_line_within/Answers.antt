use Rattle.std.proofs.Common.{◌∙◌, length, arith}
use Rattle.model.specs.Places.{source_at}
use Rattle.model.specs.Histories.{log_of}
use Rattle.model.specs.Items.{history_of}
use Rattle.plain.proofs.CutLoops.{every_length}
use Rattle.plain.proofs.cuts.is_line_within.Goals as goal

pub returns : goal.returns
returns c =
    let p = c.args.plan.now in
    let h = history_of c.args.items.now in
    record {
      width = c.if-line-source_count.false ∙ c.source_count.ensures.count;
      lengths = every_length c.args.line.now (λ j. length (log_of (source_at p j) h)) (λ j lt. c.loop-source.invariant j (omega (arith, c.loop-source-test.false, lt)));
    }
