use Rattle.row.specs.Cells.{row_cmp}
use Rattle.key_rows.proofs.Pieced.{IsAscending-take, IsAscending-drop}
use Rattle.key_rows.proofs.list.PlacedRows.split_off.Goals as goal

pub invariant_of-result : goal.invariant_of-result
invariant_of-result c = rw c.in_ok-rows.ensures.tail (IsAscending-drop row_cmp c.args.at c.self.inside.rows.items c.self.invariant)

pub invariant_of-self-2 : goal.invariant_of-self-2
invariant_of-self-2 c = rw c.in_ok-rows.ensures.items (IsAscending-take row_cmp c.args.at c.self.inside.rows.items c.self.invariant)
