use Rattle.std.proofs.Common.{ap, ◌∙◌}
use Rattle.protocol.specs.WorldSteps.{asked_of}
use Rattle.machine.specs.Held.{view_node}
use Rattle.world.proofs.Counting.{asked_more, asked_whole}
use Rattle.world.proofs.counts.asked_all.Goals as goal

pub loop-domain-preserved : goal.loop-domain-preserved
loop-domain-preserved g c = record {
  total = c.plus-total.ensures ∙ asked_more c.args.view c.args.views.now c.loop-domain.domain-index c.domain-item.result c.loop-domain.total c.asked_of.result c.loop-domain-test.true c.loop-domain.invariant.total
      (c.asked_of.ensures ∙ ap (λ d. asked_of c.args.view (view_node d)) c.domain-item.is);
}

pub returns : goal.returns
returns g c = c.loop-domain.invariant.total ∙ asked_whole c.args.view c.args.views.now c.loop-domain.domain-index c.loop-domain-test.false
