use Rattle.std.proofs.Common.{length, slice_set, add-one, ap, ◌∙◌, arith}
use Rattle.std.proofs.lemmas.List.{length-map}
use Rattle.model.specs.Fronts.{LogView}
use Rattle.packet.specs.Lines.{lengths_of}
use Rattle.packet.proofs.Joins.{at_most_none, at_most_next, at_most_all}
use Rattle.packet.proofs.stage_packet.keep_within.Goals as goal

pub loop-source-init : goal.loop-source-init
loop-source-init g c = at_most_none c.args.counts.now

pub loop-source-preserved : goal.loop-source-preserved
loop-source-preserved g c = rw (add-one c.loop-source.source) (
    ap (λ ks. slice_set ks c.loop-source.source c.min.result) c.loop-source.invariant
    ∙ at_most_next c.args.counts.now c.args.line.now c.loop-source.source c.min.result (g.F.Fronts.log c.front.result.now) c.front.ensures (omega arith) (rw (← c.loop-source.invariant, ← c.len.ensures) c.min.ensures))

pub returns : goal.returns
returns g c =
    let count = length-map c.args.line.now (λ (l : LogView). length l.entries) in
    c.loop-source.invariant ∙ at_most_all c.args.counts.now (lengths_of c.args.line.now) c.loop-source.source (omega (arith, count))
