use Rattle.row.specs.Cells.{row_cmp}
use Rattle.row.specs.CellOrder.{row_total}
use Rattle.row.proofs.BagLemmas.{inserted_is, IsAscending-inserted}
use Rattle.key_rows.proofs.list.PlacedRows.add.Goals as goal

pub invariant_of-self-2 : goal.invariant_of-self-2
invariant_of-self-2 c =
    rw (inserted_is row_cmp row_total c.args.row c.self.inside.rows.items c.deref.result.now c.insert.new.self.items c.place-at.result c.deref.ensures.value c.place-at.ensures.small c.place-at.ensures.place c.in_ok-insert.ensures.items)
    (IsAscending-inserted row_cmp row_total c.args.row c.self.inside.rows.items c.self.invariant)

pub returns : goal.returns
returns c =
    rw (← c.self.view_is)
    (inserted_is row_cmp row_total c.args.row c.self.inside.rows.items c.deref.result.now c.insert.new.self.items c.place-at.result c.deref.ensures.value c.place-at.ensures.small c.place-at.ensures.place c.in_ok-insert.ensures.items)
