use Rattle.std.proofs.Common.{◌++◌, ◌∷◌, [], ap, ◌∙◌}
use Rattle.plan.proofs.Ranges.{put_more}
use Rattle.model.specs.Histories.{len_at}
use Rattle.protocol.specs.WorldSteps.{greater}
use Rattle.schedule.proofs.cuts.greatest_line.Goals as goal

pub loop-source-preserved : goal.loop-source-preserved
loop-source-preserved c =
    let a = c.args.a.now in
    let b = c.args.b.now in
    let s = c.args.stage in
    put_more (λ j. greater (len_at a s j) (len_at b s j)) [] c.loop-source.line.items c.push.new.self.items c.loop-source.source c.loop-source.invariant
    (c.in_ok-push.ensures.items ∙ ap (λ x. c.loop-source.line.items ++ x ∷ []) (c.greater.ensures ∙ ap (λ x. greater x c.len-in-loop-source.result) c.len.ensures ∙ ap (greater (len_at a s c.loop-source.source)) c.len-in-loop-source.ensures))
