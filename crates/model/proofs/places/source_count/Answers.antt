use Rattle.std.proofs.Common.{sym, ap, arith}
use Rattle.model.specs.Places.{side_count}
use Rattle.model.proofs.PlaceLaws.{source_count, source_count_left}
use Rattle.model.proofs.places.source_count.Goals as goal

pub returns-in-Some-clause-count : goal.returns-in-Some-clause-count
returns-in-Some-clause-count c =
    let p = c.args.plan.now in
    omega (arith, source_count p c.in-Some.side.now (sym c.in-Some.ensures), ap (side_count p) c.left.ensures, c.side_count-lefts.ensures.count, c.side_count.ensures.count)

pub returns-in-None-clause-count : goal.returns-in-None-clause-count
returns-in-None-clause-count c =
    let p = c.args.plan.now in
    omega (arith, source_count_left p (sym c.in-None.ensures), ap (side_count p) c.left.ensures, c.side_count-lefts.ensures.count)
