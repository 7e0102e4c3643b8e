use Rattle.std.proofs.Common.{◌∙◌, sym}
use Rattle.packet.proofs.KeySteps.{hole_is}
use Rattle.view_domain.proofs.AskSteps.{begun_is, begun_shown, idle_is}
use Rattle.view_domain.proofs.asks.begin_key.Goals as goal

pub returns-then-not-branch-clause-hole : goal.returns-then-not-branch-clause-hole
returns-then-not-branch-clause-hole c = sym (hole_is c.args.kept.now c.in_ok-copy.copy c.args.key c.in_ok-copy.ensures ∙ (sym c.in_ok-begin.ensures.began ∙ c.if-not-branch.true))

pub returns-then-not-branch-clause-stays : goal.returns-then-not-branch-clause-stays
returns-then-not-branch-clause-stays c = idle_is c.args.kept.now c.begin.new.self c.in_ok-copy.copy c.args.key c.in_ok-copy.ensures c.args.kept.now.sources c.in_ok-begin.ensures.waits c.in_ok-begin.ensures.others c.in_ok-begin.ensures.order (sym c.in_ok-begin.ensures.began ∙ c.if-not-branch.true)

pub returns-clause-hole : goal.returns-clause-hole
returns-clause-hole c = sym (hole_is c.args.kept.now c.in_ok-copy.copy c.args.key c.in_ok-copy.ensures ∙ (sym c.in_ok-begin.ensures.began ∙ c.if-not-branch.false))

pub returns-clause-begins : goal.returns-clause-begins
returns-clause-begins c = begun_is c.args.kept.now c.begin.new.self c.in_ok-copy.copy c.args.key c.in_ok-copy.ensures c.args.kept.now.sources c.in_ok-begin.ensures.waits c.in_ok-begin.ensures.others c.in_ok-begin.ensures.order

pub returns-then-not-branch-clause-shown : goal.returns-then-not-branch-clause-shown
returns-then-not-branch-clause-shown c = begun_shown c.args.kept.now c.begin.new.self c.in_ok-copy.copy c.args.key c.in_ok-copy.ensures c.args.kept.now.sources c.in_ok-begin.ensures.waits c.in_ok-begin.ensures.others c.in_ok-begin.ensures.order
