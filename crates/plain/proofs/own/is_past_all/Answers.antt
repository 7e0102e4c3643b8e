use Rattle.model.specs.Legal.{IsPast}
use Rattle.model.specs.Tables.{place_of}
use Rattle.model.proofs.Lists.{mapped_at, mapped_more}
use Rattle.plain.proofs.own.is_past_all.Goals as goal

pub returns-then-not-is_past : goal.returns-then-not-is_past
returns-then-not-is_past c = λ each. c.if-not-is_past.ensures (mapped_at place_of (IsPast c.args.plan.now c.args.cut.now) c.args.own.now c.loop-place.place-index _ c.loop-place-test.true each)

pub loop-place-preserved : goal.loop-place-preserved
loop-place-preserved c = mapped_more place_of (IsPast c.args.plan.now c.args.cut.now) c.args.own.now c.loop-place.place-index _ c.loop-place-test.true c.loop-place.invariant c.if-not-is_past.ensures
