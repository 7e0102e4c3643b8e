use Rattle.std.proofs.Common.{rules}
use Rattle.plan.proofs.OwnTexts.{domain_answer}
use Rattle.plan.proofs.plan.Plan.domain_named.Goals as goal

pub returns-clause-exact : goal.returns-clause-exact
returns-clause-exact c = domain_answer c.args.self.now c.keeps_profile.ensures c.args.text.now c.first_with.result (search rules)
