use Rattle.std.proofs.Common.{sym}
use Rattle.row.specs.Cells.{row_cmp}
use Rattle.row.specs.CellOrder.{row_total}
use Rattle.row.specs.Bags.{times}
use Rattle.row.proofs.BagLemmas.{none_of, removed_absent}
use Rattle.key_rows.proofs.list.PlacedRows.take_away.Goals as goal

pub returns-else-has_at : goal.returns-else-has_at
returns-else-has_at c =
    let none = none_of c.has_at.result (times row_cmp c.args.row.now c.args.self.now) c.if-has_at.false c.has_at.ensures.1 in
    sym (removed_absent row_cmp row_total c.args.row.now c.args.self.now none)
