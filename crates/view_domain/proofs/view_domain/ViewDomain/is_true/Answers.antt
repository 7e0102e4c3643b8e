use Rattle.view_domain.proofs.Holds.{read_true}
use Rattle.view_domain.proofs.view_domain.ViewDomain.is_true.Goals as goal

pub returns : goal.returns
returns g c = rw (← c.self.view_is) (λ sound.
    let holds = c.self.invariant.1 sound in
    record { keys = λ k own. read_true _ k holds own; stages = holds.stages; of = holds.of })
