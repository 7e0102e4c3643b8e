use Rattle.std.proofs.Common.{arith, ap, sym, ◌∙◌}
use Rattle.row.specs.Cells.{row_cmp}
use Rattle.row.specs.Bags.{times}
use Rattle.row.specs.Held.{rows_in}
use Rattle.row.proofs.BagLemmas.{times-inserted}
use Rattle.row.proofs.bag.Bag.add_all.Goals as goal

pub returns-in_ok-add-in-One : goal.returns-in_ok-add-in-One
returns-in_ok-add-in-One c = record {
  counts = λ z.
      let others = ap (times row_cmp z) (sym c.other.view_is ∙ ap rows_in c.in-One.is) in
      rw (c.in_ok-add-in-One.ensures.added) (omega (arith, others, times-inserted row_cmp z c.in-One.row c.args.self.now));
}
