use Rattle.std.proofs.Common.{subst}
use Rattle.plan.specs.Facts.{Facts}
use Rattle.plan.proofs.Facts.{facts}
use Rattle.plan.proofs.plan.Plan.keeps_profile.Goals as goal

pub returns : goal.returns
returns c = subst Facts c.self.view_is (facts _ c.self.invariant)
