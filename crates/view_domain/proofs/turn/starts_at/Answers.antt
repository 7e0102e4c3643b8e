use Rattle.std.proofs.Common.{◌<◌, length, arith, rules, sym, refl, true≢false}
use Rattle.view_domain.proofs.LineSteps.{pointwise_at, pointwise_length, same_more, same_first, same_rest, same_end}
use Rattle.view_domain.proofs.turn.starts_at.Goals as goal

pub offset_bounds-from-source : goal.offset_bounds-from-source
offset_bounds-from-source g c =
    let n = pointwise_length g.F.Fronts.are_one c.args.held.now c.args.to.now c.requires.one in
    let lt : c.loop-source.source < length c.args.from.now = omega (arith, n, c.requires.count, c.loop-source-test.true, c.sources-source-end.ensures) in
    search rules

pub bounds-from-source : goal.bounds-from-source
bounds-from-source g c = omega (arith, pointwise_length g.F.Fronts.are_one c.args.held.now c.args.to.now c.requires.one, c.requires.count, c.loop-source-test.true, c.sources-source-end.ensures)

pub front-requires : goal.front-requires
front-requires g c = omega (arith, pointwise_length g.F.Fronts.are_one c.args.held.now c.args.to.now c.requires.one, c.loop-source-test.true, c.sources-source-end.ensures)

pub is_held-requires : goal.is_held-requires
is_held-requires g c = pointwise_at g.F.Fronts.are_one c.args.held.now c.args.to.now c.loop-source.source _ _ c.requires.one c.front-in-loop-source.ensures c.front.ensures

pub returns-then-not-is_held : goal.returns-then-not-is_held
returns-then-not-is_held g c =
    let lt : c.loop-source.source < length c.args.from.now = omega (arith, pointwise_length g.F.Fronts.are_one c.args.held.now c.args.to.now c.requires.one, c.requires.count, c.loop-source-test.true, c.sources-source-end.ensures) in (
      λ t. absurd (true≢false (sym t)),
      λ e. c.if-not-is_held.ensures.1 (same_first c.args.from.now c.args.to.now c.args.held.now c.loop-source.source _ _ lt c.front.ensures c.front-in-loop-source.ensures (c.loop-source.invariant.rest e)),
    )

pub loop-source-preserved : goal.loop-source-preserved
loop-source-preserved g c =
    let lt : c.loop-source.source < length c.args.from.now = omega (arith, pointwise_length g.F.Fronts.are_one c.args.held.now c.args.to.now c.requires.one, c.requires.count, c.loop-source-test.true, c.sources-source-end.ensures) in
    let from = c.args.from.now in
    let to = c.args.to.now in
    let held = c.args.held.now in
    record {
      whole = λ rest. c.loop-source.invariant.whole (same_more from to held c.loop-source.source _ _ lt c.front.ensures c.front-in-loop-source.ensures (c.if-not-is_held.ensures.0 refl) rest);
      rest = λ e. same_rest from to held c.loop-source.source _ _ lt c.front.ensures c.front-in-loop-source.ensures (c.loop-source.invariant.rest e);
    }

pub returns : goal.returns
returns g c = (
  λ t. c.loop-source.invariant.whole (same_end c.args.from.now c.args.to.now c.args.held.now c.loop-source.source (sym (pointwise_length g.F.Fronts.are_one c.args.held.now c.args.to.now c.requires.one)) (omega (arith, c.loop-source-test.false, c.sources-source-end.ensures))),
  λ e. refl,
)
