use Rattle.std.proofs.Common.{◌+◌, length, slice_set, take, ap, ◌∙◌}
use Rattle.std.proofs.lemmas.List.{length-set}
use Rattle.packet.proofs.Copies.{copied_more}
use Rattle.packet.proofs.line.Line.copy_from.Goals as goal

pub loop-source-preserved : goal.loop-source-preserved
loop-source-preserved g c =
    let i = c.loop-source.invariant in
    let put = c.set.ensures ∙ ap (λ l. slice_set c.loop-source.self c.loop-source.source l) c.in_ok-front.ensures.same.0 in
    record {
      copied = ap (take (c.loop-source.source + 1)) put ∙ copied_more c.loop-source.self c.args.other.now c.loop-source.source _ i.copied i.sources c.front.ensures;
      sources = ap length put ∙ (length-set c.loop-source.self c.loop-source.source _ ∙ i.sources);
    }
