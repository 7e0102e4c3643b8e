use Rattle.std.proofs.Common.{◌≡◌, ◌∙◌, ap, take, take_all, arith}
use Rattle.model.proofs.Zeros.{zero_floors, zero_rows}
use Rattle.model.proofs.floors.Floors.zeros.Goals as goal

pub returns-clause-zeros : goal.returns-clause-zeros
returns-clause-zeros c =
    let all : take c.loop-view.view c.args.plan.now.views ≡ c.args.plan.now.views = take_all c.loop-view.view c.args.plan.now.views (omega (arith, c.views-view-end.ensures, c.loop-view-test.false)) in
    zero_floors c.args.plan.now _ (c.loop-view.invariant ∙ ap zero_rows all)
