use Rattle.std.proofs.Common.{◌<◌, Global, Vec, length, ap, sym, ◌∙◌, arith}
use Rattle.model.specs.declared.lengths.Lengths.{Lengths}
use Rattle.schedule.proofs.Raises.{raised_first, raised_more, same_more}
use Rattle.schedule.proofs.cuts.raise.Goals as goal
use Rattle.schedule.proofs.cuts.raise.Goals.{in-Some+in_ok-raise_at, in_default}

pub loop-reader-init : goal.loop-reader-init
loop-reader-init c = raised_first c.args.places.now c.args.floors.now.items c.args.acks.now

pub loop-reader-preserved : goal.loop-reader-preserved
loop-reader-preserved c =
    let p = c.args.places.now in
    let n = c.loop-reader.reader in
    let acks = c.args.acks.now in
    let lt : n < length acks = omega (arith, c.loop-reader-test.true) in
    elim c.match-acks-reader.branch [
      | in-Some+in_ok-raise_at w ↦
          raised_more p c.args.floors.now.items c.loop-reader.floors.items c.match-acks-reader.floors.items acks n c.index-acks-reader.result w.in-Some.cut lt (sym c.index-acks-reader.is ∙ w.in-Some.is) c.loop-reader.invariant (ap (λ (v : Vec Lengths Global). v.items) w.floors-is ∙ w.in_ok-raise_at.ensures)
      | in_default w ↦ same_more p c.args.floors.now.items c.match-acks-reader.floors.items acks n c.index-acks-reader.result lt (sym c.index-acks-reader.is ∙ w.in_default.is) (ap (λ (v : Vec Lengths Global). v.items) w.floors-is ∙ c.loop-reader.invariant)
    ]
