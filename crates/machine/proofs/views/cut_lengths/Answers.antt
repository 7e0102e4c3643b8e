use Rattle.std.proofs.Common.{ap, ◌∙◌}
use Rattle.protocol.specs.WorldSteps.{lengths_of}
use Rattle.view_domain.specs.Domains.{lines_of}
use Rattle.machine.proofs.Acks.{cut_more, cut_whole}
use Rattle.machine.proofs.views.cut_lengths.Goals as goal

pub loop-line-preserved : goal.loop-line-preserved
loop-line-preserved g c = record {
  cut = cut_more c.cut-line-items.result.now c.loop-line.line-index _ c.line-item.result c.loop-line.cut c.push_line.new.self c.as_slice.result.now c.loop-line-test.true
      c.loop-line.invariant.cut c.in_ok-push_line.ensures.ok (c.as_slice.ensures ∙ c.in_ok-lengths.ensures) c.line-item.is;
}

pub returns : goal.returns
returns g c =
    c.loop-line.invariant.cut ∙ (cut_whole c.cut-line-items.result.now c.loop-line.line-index c.loop-line-test.false ∙ ap (λ x. lengths_of (lines_of x)) c.cut-line-items.ensures.cut)
