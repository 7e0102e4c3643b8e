use Rattle.row.specs.Packed.{datum_in}
use Rattle.base.proofs.Stores.{own_cell}
use Rattle.base.proofs.shard.key_in.Goals as goal

pub returns-in-Insert : goal.returns-in-Insert
returns-in-Insert c = rw c.in-Insert.is (own_cell c.in-Insert.row c.args.column (datum_in c.cell.result) (rw c.in-Insert.is at c.requires) c.cell.ensures)

pub returns-in-Update : goal.returns-in-Update
returns-in-Update c = rw c.in-Update.is (own_cell c.in-Update.row c.args.column (datum_in c.cell-in-Update.result) (rw c.in-Update.is at c.requires) c.cell-in-Update.ensures)
