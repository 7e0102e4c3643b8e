use Rattle.row.specs.Cells.{row_cmp}
use Rattle.row.specs.CellOrder.{row_total}
use Rattle.row.proofs.BagLemmas.{inserted_is, IsAscending-inserted}
use Rattle.row.specs.Held.{rows_in}
use Rattle.row.proofs.bag.Bag.add.Goals as goal

pub invariant_of-self-2 : goal.invariant_of-self-2
invariant_of-self-2 c =
    rw (inserted_is row_cmp row_total c.args.row (rows_in c.self.inside.rows) c.as_slice.result.now (rows_in c.insert.new.self) c.place-at.result c.as_slice.ensures.value c.place-at.ensures.small c.place-at.ensures.place c.in_ok-insert.ensures.items)
    (IsAscending-inserted row_cmp row_total c.args.row (rows_in c.self.inside.rows) c.self.invariant)

pub returns-clause-added : goal.returns-clause-added
returns-clause-added c =
    rw (← c.self.view_is)
    (inserted_is row_cmp row_total c.args.row (rows_in c.self.inside.rows) c.as_slice.result.now (rows_in c.insert.new.self) c.place-at.result c.as_slice.ensures.value c.place-at.ensures.small c.place-at.ensures.place c.in_ok-insert.ensures.items)
