use Rattle.std.proofs.Common.{sym, subst}
use Rattle.row.specs.Bags.{Each}
use Rattle.packet.specs.Lines.{AreOf}
use Rattle.packet.proofs.Copies.{cut_made, cut_of}
use Rattle.domain_turns.proofs.Starting.{if_shows}
use Rattle.domain_turns.proofs.fresh.fresh_view.Goals as goal

pub new-requires-clause-of : goal.new-requires-clause-of
new-requires-clause-of g c =
    let p = g.J.Naming.plan in
    let made = cut_made p c.plan-plan.result.now c.stages.result c.in_ok-line.line c.in_ok-cut.cut.items c.plan-plan.ensures c.stages.ensures c.in_ok-line.ensures c.in_ok-cut.ensures in
    let q = c.plan-plan.result.now in
    subst (Each (AreOf q)) (sym made) (cut_of q q.stages)

pub returns-clause-shows : goal.returns-clause-shows
returns-clause-shows g c =
    let p = g.J.Naming.plan in
    let made = cut_made p c.plan-plan.result.now c.stages.result c.in_ok-line.line c.in_ok-cut.cut.items c.plan-plan.ensures c.stages.ensures c.in_ok-line.ensures c.in_ok-cut.ensures in
    if_shows p c.plan-plan.result.now c.args.view c.args.shard c.in_ok-cut.cut.items c.new.result c.plan-plan.ensures made c.new.ensures
