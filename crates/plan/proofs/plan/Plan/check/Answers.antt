use Rattle.std.proofs.Common.{◌≡◌, ℕ, true, false, Option, Some, None, refl, ap, sym, ◌∙◌}
use Rattle.std.specs.Option.{is_none}
use Rattle.plan.specs.Profile.{refusal, IsPlan}
use Rattle.plan.proofs.plan.Plan.check.Goals as goal

none_of : (o : Option ℕ) → is_none o ≡ true → o ≡ None
none_of None h = refl
none_of (Some n) h = absurd cc

pub from_checked-requires : goal.from_checked-requires
unfolding IsPlan
from_checked-requires c = none_of (refusal c.args.draft) (sym c.is_plan.ensures ∙ c.if-not-is_plan.false)

pub returns-then-not-is_plan : goal.returns-then-not-is_plan
unfolding IsPlan
returns-then-not-is_plan c plan = let no : false ≡ true = sym c.if-not-is_plan.true ∙ (c.is_plan.ensures ∙ ap is_none plan) in cc
