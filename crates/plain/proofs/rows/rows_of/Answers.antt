use Rattle.std.proofs.Common.{◌∙◌}
use Rattle.plain.proofs.Loops.{rows_more}
use Rattle.plain.proofs.rows.rows_of.Goals as goal

pub loop-entry-preserved : goal.loop-entry-preserved
loop-entry-preserved c = c.in_ok-rows.ensures ∙ rows_more c.args.key _ _ c.entry-item.result c.loop-entry.rows.items c.loop-entry-test.true c.entry-item.is c.loop-entry.invariant
