use Rattle.std.proofs.Common.{◌≡◌, ◌<◌, length, ap, sym, ◌∙◌, arith}
use Rattle.std.specs.List.{list_all, range_with_len}
use Rattle.plan.specs.Layouts.{Layout}
use Rattle.model.specs.Places.{sources}
use Rattle.schedule.specs.Sessions.{holds, holds_line}
use Rattle.schedule.proofs.Alls.{all_more, by_lines, one_fails}
use Rattle.schedule.proofs.cuts.covers.Goals as goal

pub returns-then-not-holds_line : goal.returns-then-not-holds_line
returns-then-not-holds_line c =
    let p = c.args.places.now in
    let lt : c.loop-stage.stage < p.stages = omega (arith, c.loop-stage-test.true, c.stages-stage-end.ensures, ap (λ (q : Layout). q.stages) c.plan.ensures) in
    sym (by_lines (holds p c.args.own.now c.args.cut.now) p.stages (length (sources p)) ∙ one_fails (holds_line p c.args.own.now c.args.cut.now) p.stages c.loop-stage.stage lt (sym c.holds_line.ensures ∙ c.if-not-holds_line.true))

pub loop-stage-preserved : goal.loop-stage-preserved
loop-stage-preserved c = all_more (holds_line c.args.places.now c.args.own.now c.args.cut.now) c.loop-stage.stage c.loop-stage.invariant (sym c.holds_line.ensures ∙ c.if-not-holds_line.false)

pub returns : goal.returns
returns c =
    let p = c.args.places.now in
    let end : p.stages ≡ c.loop-stage.stage = omega (arith, c.loop-stage-test.false, c.loop-stage.auto.stage-end, c.stages-stage-end.ensures, ap (λ (q : Layout). q.stages) c.plan.ensures) in
    sym (by_lines (holds p c.args.own.now c.args.cut.now) p.stages (length (sources p)) ∙ ap (λ n. list_all (holds_line p c.args.own.now c.args.cut.now) (range_with_len 0 n)) end ∙ c.loop-stage.invariant)
