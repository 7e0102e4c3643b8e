use Rattle.std.proofs.Common.{Some, None, ◌∙◌}
use Rattle.world.proofs.Looking.{rows_filled, rows_true}
use Rattle.world.proofs.reads.find.Goals as goal

pub returns : goal.returns
returns g c = record {
  filled = rows_filled c.args.domain.now.kept c.args.key.now (Some c.in-Some.rows.now) c.in-Some.ensures.rows;
  rows = c.in_ok-rows.ensures ∙ (c.in_ok-shared.ensures ∙ rows_true c.args.domain.now.kept c.args.key.now c.in-Some.rows.now _ c.in-Some.ensures.rows (c.in-Some.ensures.truth c.requires.whole c.requires.shard));
}

pub returns-in_default : goal.returns-in_default
returns-in_default g c = record { filled = rows_filled c.args.domain.now.kept c.args.key.now None c.in_default.ensures.rows; rows = tt }
