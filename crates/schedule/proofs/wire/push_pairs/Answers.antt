use Rattle.std.proofs.Common.{◌++◌, map, ap, sym, ◌∙◌, append_assoc}
use Rattle.plan.proofs.Ranges.{flat_map_more}
use Rattle.protocol.specs.Edges.{pairs}
use Rattle.schedule.specs.Codes.{wire_in}
use Rattle.schedule.specs.Ways.{wire_on, wires_on}
use Rattle.schedule.proofs.wire.push_pairs.Goals as goal

pub loop-place-preserved : goal.loop-place-preserved
loop-place-preserved c =
    let old = map wire_in c.args.out.now.items in
    let n = c.loop-place.place in
    let now = wires_on c.args.way n c.args.to in
    c.in_ok-push_wires.ensures ∙ ap (λ t. t ++ now) c.loop-place.invariant ∙ append_assoc old (pairs (wire_on c.args.way) n c.args.to) now ∙ ap (λ t. old ++ t) (sym (flat_map_more (λ x. wires_on c.args.way x c.args.to) n))
