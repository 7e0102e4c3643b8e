use Rattle.std.proofs.Common.{arith, refl}
use Rattle.row.specs.Cells.{row_cmp}
use Rattle.row.specs.CellOrder.{row_total}
use Rattle.row.proofs.BagLemmas.{removed_is, removed_inside, IsAscending-removed}
use Rattle.key_rows.proofs.list.PlacedRows.take_at.Goals as goal

pub remove-requires : goal.remove-requires
remove-requires c = omega (
  arith,
  c.self.inside.rows.ok,
  removed_inside row_cmp row_total c.args.row.now c.self.inside.rows.items c.args.at c.self.invariant (rw c.self.view_is c.requires.small) (rw c.self.view_is c.requires.place) (rw c.self.view_is c.requires.there),
)

pub invariant_of-self : goal.invariant_of-self
invariant_of-self c =
    let rows = c.self.inside.rows.items in
    rw (removed_is row_cmp row_total c.args.row.now rows rows c.remove.new.self.items c.args.at refl c.self.invariant (rw c.self.view_is c.requires.small) (rw c.self.view_is c.requires.place) (rw c.self.view_is c.requires.there) c.remove.ensures.items)
    (IsAscending-removed row_cmp c.args.row.now rows c.self.invariant)

pub returns : goal.returns
returns c =
    let rows = c.self.inside.rows.items in
    rw (← c.self.view_is)
    (removed_is row_cmp row_total c.args.row.now rows rows c.remove.new.self.items c.args.at refl c.self.invariant (rw c.self.view_is c.requires.small) (rw c.self.view_is c.requires.place) (rw c.self.view_is c.requires.there) c.remove.ensures.items)
