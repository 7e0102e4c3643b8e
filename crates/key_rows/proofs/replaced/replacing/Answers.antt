use Rattle.std.proofs.Common.{refl}
use Rattle.key_rows.proofs.InPlaceOf.{row_replaced}
use Rattle.key_rows.proofs.replaced.replacing.Goals as goal

pub returns-then-precedes-clause-rows : goal.returns-then-precedes-clause-rows
returns-then-precedes-clause-rows c =
    row_replaced c.args.rows.now c.in_ok-at.at c.in_ok-gone.gone c.in_ok-come.come c.args.gone.now c.args.come.now c.in_ok-at.ensures.small c.in_ok-at.ensures.is c.requires.in_order (c.if-follows.ensures refl) (c.if-precedes.ensures refl) c.in_ok-gone.ensures.cells c.in_ok-come.ensures.cells
