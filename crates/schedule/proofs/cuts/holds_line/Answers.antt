use Rattle.std.proofs.Common.{◌<◌, length, ap, sym, ◌∙◌, arith}
use Rattle.model.specs.Places.{sources}
use Rattle.schedule.specs.Sessions.{holds}
use Rattle.schedule.proofs.Alls.{all_more, one_fails}
use Rattle.schedule.proofs.cuts.holds_line.Goals as goal

pub returns-then-not-holds : goal.returns-then-not-holds
returns-then-not-holds c =
    let p = c.args.places.now in
    let lt : c.loop-source.source < length (sources p) = omega (arith, c.loop-source-test.true, ap length c.sources-source-end.ensures) in
    sym (one_fails (holds p c.args.own.now c.args.cut.now c.args.stage) (length (sources p)) c.loop-source.source lt (sym c.holds.ensures ∙ c.if-not-holds.true))

pub loop-source-preserved : goal.loop-source-preserved
loop-source-preserved c = all_more (holds c.args.places.now c.args.own.now c.args.cut.now c.args.stage) c.loop-source.source c.loop-source.invariant (sym c.holds.ensures ∙ c.if-not-holds.false)
