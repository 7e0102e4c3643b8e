use Rattle.std.proofs.Common.{◌-◌, ◌++◌, length-take, reverse, arith, ap, refl, ◌∙◌}
use Rattle.row.specs.Bags.{joined}
use Rattle.key_rows.proofs.Pieced.{joined_reverse, front_and_back}
use Rattle.key_rows.proofs.pieces.cut.Goals as goal

pub loop-rest-preserved : goal.loop-rest-preserved
loop-rest-preserved c =
    let rest = c.loop-rest.rest in
    let ps = c.loop-rest.pieces.items in
    let from = c.len-from.result - 16 in
    let front = c.split_off.new.self in
    let back = c.in_ok-of.field-0 in
    record {
      some = rw c.in_ok-split_off.ensures.front (omega (arith, length-take from rest, c.len-from.ensures.rows, c.len-in-loop-rest.ensures.rows, c.loop-rest-test.true));
      rows =
          rw c.in_ok-push.ensures.items (joined_reverse front back ps ∙ (ap (λ t. t ++ joined (reverse ps)) (front_and_back rest front c.in_ok-split_off.field-0 front back from c.in_ok-split_off.ensures.front c.in_ok-split_off.ensures.back refl c.in_ok-of.ensures) ∙ c.loop-rest.invariant.rows));
    }
