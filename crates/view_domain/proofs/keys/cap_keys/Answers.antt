use Rattle.std.proofs.Common.{◌∙◌}
use Rattle.packet.specs.Keys.{stands_of}
use Rattle.view_domain.proofs.FillSteps.{shrink_less}
use Rattle.view_domain.proofs.keys.cap_keys.Goals as goal

pub loop-gone-preserved : goal.loop-gone-preserved
loop-gone-preserved c = record {
  sources = c.open_oldest.ensures.sources ∙ c.loop-gone.invariant.sources;
  stands = shrink_less c.saturating_sub-gone-end.result c.loop-gone._gone (stands_of c.loop-gone.kept) (stands_of c.open_oldest.new.kept) _ c.loop-gone-test.true c.open_oldest.ensures.stands c.loop-gone.invariant.stands;
  truth = λ k parts t. c.open_oldest.ensures.truth k parts (c.loop-gone.invariant.truth k parts t);
  shown = λ first h. c.in_ok-open_oldest.ensures.shown first (c.loop-gone.invariant.shown first h);
}
