use Rattle.std.proofs.Common.{Bool, subst, take}
use Rattle.model.specs.Legal.{Allows}
use Rattle.model.specs.Items.{item_of, history_of}
use Rattle.plain.specs.Tells.{Tells}
use Rattle.plain.proofs.Verdicts.{legal_push, first_fault}
use Rattle.plain.proofs.legal.verdict.Goals as goal

pub returns-then-not-branch : goal.returns-then-not-branch
returns-then-not-branch c =
    let past = history_of (take c.loop-at.at c.args.items.now) in
    let broken = subst (λ (b : Bool). Tells b (Allows c.args.plan.now c.args.sessions past (item_of c.index-items-at.result))) c.if-not-branch.true c.in_ok-allows.ensures in
    first_fault c.args.plan.now c.args.sessions c.args.items.now c.loop-at.at c.index-items-at.result c.loop-at-test.true c.index-items-at.is c.loop-at.invariant broken

pub loop-at-preserved : goal.loop-at-preserved
loop-at-preserved c =
    let past = history_of (take c.loop-at.at c.args.items.now) in
    let allowed = subst (λ (b : Bool). Tells b (Allows c.args.plan.now c.args.sessions past (item_of c.index-items-at.result))) c.if-not-branch.false c.in_ok-allows.ensures in
    legal_push c.args.plan.now c.args.sessions c.args.items.now c.loop-at.at c.index-items-at.result c.loop-at-test.true c.index-items-at.is c.loop-at.invariant allowed
