use Rattle.std.proofs.Common.{sym, subst}
use Rattle.std.specs.HashMap.{values}
use Rattle.row.specs.Cells.{row_cmp}
use Rattle.row.specs.Bags.{sorted}
use Rattle.base.specs.Indexed.{AreIndexes}
use Rattle.base.proofs.Indexes.{of_alike}
use Rattle.base.proofs.Kept.{if_some}
use Rattle.base.proofs.Orders.{alike_sym, sorted_self}
use Rattle.base.proofs.shard.BaseShard.index.Goals as goal

pub returns-clause-found : goal.returns-clause-found
returns-clause-found c =
    let rows = values c.self.inside.rows in
    let like = alike_sym row_cmp (sorted row_cmp rows) rows (sorted_self row_cmp rows) in
    rw (← c.self.view_is) (if_some c.ready_by.result (λ g h. (h.0, of_alike g.now rows (sorted row_cmp rows) like (h.1 rows (subst (AreIndexes rows) (sym c.deref.ensures.value) c.self.invariant.1)))) c.ready_by.ensures.found)
