use Rattle.view_domain.proofs.Holds.{read_true}
use Rattle.view_domain.proofs.view_domain.ViewDomain.get.Goals as goal

pub returns-clause-truth : goal.returns-clause-truth
returns-clause-truth g c = rw (← c.self.view_is) (λ sound own. read_true _ c.args.key.now (c.self.invariant.1 sound) own)
