use Rattle.std.proofs.Common.{◌≡◌, drop}
use Rattle.plan.specs.Domains.{first_with}
use Rattle.plan.proofs.plan.Plan.first_with.Given as goal

abbrev pub invariant-loop-one : goal.invariant-loop-one
invariant-loop-one g l = first_with (g.T.HasText.text_of l.self) l.text l.all ≡ first_with (g.T.HasText.text_of l.self) l.text (drop l.one-index l.all)
