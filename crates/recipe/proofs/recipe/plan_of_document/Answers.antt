use Rattle.std.proofs.Common.{rules, subst}
use Rattle.toml.specs.View.{view}
use Rattle.document.specs.Errors.{Gives}
use Rattle.recipe.proofs.Read.{plan_is}
use Rattle.recipe.proofs.recipe.plan_of_document.Goals as goal

pub returns-in_err-draft : goal.returns-in_err-draft
returns-in_err-draft c = subst (λ r. Gives (λ p. p) c.from_residual.result r) (plan_is (view c.args.document.now)) (search rules)

pub returns : goal.returns
returns c = subst (λ r. Gives (λ p. p) c.judge.result r) (plan_is (view c.args.document.now)) (search rules)
