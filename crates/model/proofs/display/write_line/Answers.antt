use Rattle.std.proofs.Common.{rules, arith, ◌≡◌, ◌∷◌, map, sym, ap}
use Rattle.std.proofs.lemmas.Grind.{common_steps}
use Rattle.std.specs.Fmt.{decimal}
use Rattle.row.proofs.Printing.{joined_written}
use Rattle.model.proofs.display.write_line.Goals as goal

pub returns : goal.returns
returns g c = λ plain _.
    let first = c.in_ok-write.ensures.writes plain (search rules) in
    let split : c.args.line.now ≡ c.in-Some.first.now ∷ c.in-Some.others.now = grind (arith, common_steps) in
    joined_written 44 decimal c.in-Some.first.now c.in-Some.others.now c.loop-length.length-index _ (ap (map decimal) (sym split)) (omega arith) first (c.loop-length.invariant first.plain)
