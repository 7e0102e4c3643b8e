use Rattle.std.proofs.Common.{ap}
use Rattle.std.proofs.lemmas.Result.{on_ok_weaker}
use Rattle.partial.specs.States.{entry_of}
use Rattle.view_domain.specs.declared.shown.KeyChange.TheVariants.{Goes}
use Rattle.view_domain.proofs.StateSteps.{leads_push}
use Rattle.view_domain.proofs.FillSteps.{oldest_is}
use Rattle.view_domain.proofs.keys.open_oldest.Goals as goal

pub returns-clause-stands : goal.returns-clause-stands
returns-clause-stands c = oldest_is c.args.kept.now c.evict_oldest.new.self c.in-Some.key c.keeps_apart.ensures c.in-Some.ensures.oldest c.in-Some.ensures.hole c.in-Some.ensures.others c.in-Some.ensures.order

pub returns-clause-shown : goal.returns-clause-shown
returns-clause-shown c = λ first h. on_ok_weaker c.tell_if.result
    (λ p. rw p (leads_push c.args.kept.now c.evict_oldest.new.self (Goes c.in-Some.key) c.in-Some.ensures.others first c.args.told.now.items (ap entry_of c.in-Some.ensures.hole) h)) c.tell_if.ensures
