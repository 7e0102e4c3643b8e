use Rattle.std.proofs.Common.{◌++◌, ◌∷◌, [], ap, ◌∙◌}
use Rattle.plan.proofs.Ranges.{put_more}
use Rattle.schedule.specs.Sessions.{greatest_line}
use Rattle.schedule.proofs.cuts.greatest.Goals as goal

pub loop-stage-preserved : goal.loop-stage-preserved
loop-stage-preserved c =
    put_more (greatest_line c.args.places.now c.args.a.now c.args.b.now) [] c.loop-stage.cut c.push_line.new.self c.loop-stage.stage c.loop-stage.invariant
    (c.in_ok-push_line.ensures.ok ∙ ap (λ x. c.loop-stage.cut ++ x ∷ []) (c.as_slice.ensures.value ∙ c.in_ok-line.ensures))
