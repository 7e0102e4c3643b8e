use Rattle.std.proofs.Common.{sym, ◌∙◌, subst}
use Rattle.row.specs.Cells.{row_cmp}
use Rattle.row.specs.CellOrder.{row_total, row_same}
use Rattle.row.specs.Bags.{IsAscending}
use Rattle.row.proofs.BagLaws.{IsAscending-of_sorted, sort_is}
use Rattle.row.proofs.bag.Bag.of.Goals as goal

pub invariant_of-result : goal.invariant_of-result
invariant_of-result c = subst (IsAscending row_cmp) (sym c.of-rows.ensures) (IsAscending-of_sorted row_cmp row_total c.sort.new.self.items c.in_ok-sort.ensures.sorted)

pub returns : goal.returns
returns c = c.of-rows.ensures ∙ sort_is row_cmp row_total row_same c.args.rows.items c.sort.new.self.items c.in_ok-sort.ensures.permutation c.in_ok-sort.ensures.sorted
