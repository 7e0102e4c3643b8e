use Rattle.std.proofs.Common.{sym, ap, ◌∙◌, arith}
use Rattle.plan.specs.Layouts.{SideLayout}
use Rattle.model.specs.Places.{side_count, base_at}
use Rattle.model.proofs.PlaceLaws.{source_left, source_count_left}
use Rattle.model.proofs.Sources.{few_sources, source_past}
use Rattle.model.proofs.places.source_at.Goals as goal

pub returns-then-source-lefts : goal.returns-then-source-lefts
returns-then-source-lefts c =
    let p = c.args.plan.now in
    c.side_base.ensures
    ∙ (ap (λ (s : SideLayout). base_at p s.table c.args.source) c.left-then-source-lefts.ensures
    ∙ sym (source_left p c.args.source (omega (arith, c.if-source-lefts.true, c.side_count-lefts.ensures.count, ap (side_count p) c.left.ensures))))

pub side_base-requires-in-Some-clause-shard : goal.side_base-requires-in-Some-clause-shard
side_base-requires-in-Some-clause-shard c = omega (arith, c.requires, few_sources c.args.plan.now c.keeps_profile.ensures)

pub returns-in-Some : goal.returns-in-Some
returns-in-Some c =
    let p = c.args.plan.now in
    c.side_base-in-Some.ensures
    ∙ source_past p c.in-Some.side.now c.args.source c.side_count-lefts.result (sym c.in-Some.ensures) (c.side_count-lefts.ensures.count ∙ ap (side_count p) c.left.ensures) c.if-source-lefts.false c.requires

pub returns-in-None : goal.returns-in-None
returns-in-None c =
    let p = c.args.plan.now in
    absurd (omega (arith, source_count_left p (sym c.in-None.ensures), c.requires, c.if-source-lefts.false, ap (side_count p) c.left.ensures, c.side_count-lefts.ensures.count))
