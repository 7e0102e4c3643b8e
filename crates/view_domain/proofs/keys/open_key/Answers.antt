use Rattle.std.proofs.Common.{None}
use Rattle.std.proofs.lemmas.Result.{on_ok_weaker}
use Rattle.packet.proofs.KeptKeys.{evict_is}
use Rattle.view_domain.proofs.StateSteps.{leads_evicted}
use Rattle.packet.proofs.KeySteps.{opened_true}
use Rattle.view_domain.proofs.keys.open_key.Goals as goal

pub returns-clause-stands : goal.returns-clause-stands
returns-clause-stands c = evict_is c.args.kept.now c.evict-what.new.self c.args.key c.evict-what.ensures.others None c.evict-what.ensures.evicted c.evict-what.ensures.order

pub returns-clause-truth : goal.returns-clause-truth
returns-clause-truth c = opened_true c.args.key c.args.kept.now c.evict-what.new.self c.evict-what.ensures.evicted c.evict-what.ensures.others

pub returns-clause-shown : goal.returns-clause-shown
returns-clause-shown c = λ first h. on_ok_weaker c.tell_gone.result
    (λ p. rw p (leads_evicted first c.args.told.now.items c.args.kept.now c.evict-what.new.self c.args.key None c.evict-what.result c.evict-what.ensures.says c.evict-what.ensures.evicted c.evict-what.ensures.others h)) c.tell_gone.ensures
