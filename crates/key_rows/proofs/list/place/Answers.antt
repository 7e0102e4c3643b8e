use Rattle.std.proofs.Common.{rules}
use Rattle.std.proofs.lemmas.List.Sorted.{IsPartitionPoint-from_clause}
use Rattle.std.specs.Ordering.{is_gt}
use Rattle.row.specs.Cells.{row_cmp}
use Rattle.row.specs.CellOrder.{row_total}
use Rattle.row.proofs.BagLemmas.{IsPartitionedBy-above}
use Rattle.key_rows.proofs.list.place.Goals as goal

pub returns-clause-place : goal.returns-clause-place
returns-clause-place c =
    IsPartitionPoint-from_clause (λ y. is_gt (row_cmp c.args.row.now y)) c.args.rows.now c.partition_point.result c.partition_point.ensures.partitioned
    (IsPartitionedBy-above row_cmp row_total c.args.row.now c.args.rows.now c.requires)
    (λ a r q k. search rules)
