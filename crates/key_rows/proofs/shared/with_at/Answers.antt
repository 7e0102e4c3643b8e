use Rattle.key_rows.proofs.InPlaceOf.{held_set}
use Rattle.key_rows.proofs.shared.with_at.Goals as goal

pub returns-clause-rows : goal.returns-clause-rows
returns-clause-rows c = held_set c.of_few.result c.copy_from_slice.new.self c.args.rows.now c.args.at c.args.row c.copy_from_slice.ensures.after c.of_few.ensures.rows
