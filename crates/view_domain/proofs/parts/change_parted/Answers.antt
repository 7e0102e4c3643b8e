use Rattle.view_domain.proofs.PartSteps.{ok_with, one_fits, one_state}
use Rattle.view_domain.proofs.parts.change_parted.Goals as goal

pub change_key-requires : goal.change_key-requires
change_key-requires c = one_fits c.args.source c.args.kept.now c.in-One.key c.in-One.records (rw c.in-One.is at c.requires)

pub returns-in-One-clause-state : goal.returns-in-One-clause-state
returns-in-One-clause-state c =
    let e = c.change_key.ensures in
    rw c.in-One.is
    (ok_with c.change_key.result (λ stands state. one_state c.args.source c.args.kept.now c.in-One.key c.in-One.records (rw c.in-One.is at c.requires) c.change_key.new.kept e.others e.sources stands state) e.stands e.state)
