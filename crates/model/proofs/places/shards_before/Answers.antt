use Rattle.std.proofs.Common.{◌<◌, length, sym, ◌∙◌, ap, arith}
use Rattle.plan.specs.Layouts.{TableLayout}
use Rattle.model.proofs.PlaceLaws.{before_none, before_more}
use Rattle.model.proofs.places.shards_before.Goals as goal

pub loop-place-init : goal.loop-place-init
loop-place-init c = record { count = sym (before_none c.args.plan.now.tables); few = omega arith }

pub loop-place-preserved : goal.loop-place-preserved
loop-place-preserved c =
    let there : c.loop-place.place < length c.args.plan.now.tables = omega (arith, c.loop-place-test.true, c.requires) in
    let shards = c.shards-count.ensures ∙ ap (λ (t : TableLayout). t.shards) c.table.ensures.table in
    record {
      count = omega (arith, c.loop-place.invariant.count, before_more c.args.plan.now.tables c.loop-place.place there, shards);
      few = omega (arith, c.loop-place.invariant.few, c.shards-count.ensures, c.table.ensures.shards);
    }
