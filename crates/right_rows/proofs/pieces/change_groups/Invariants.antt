use Rattle.std.proofs.Common.{ℕ, Option}
use Rattle.row.specs.Bags.{Each}
use Rattle.row.specs.Cells.{datum_of}
use Rattle.row.specs.declared.value.Value.{Value}
use Rattle.plan.specs.declared.kinds.Aggregate.{Aggregate}
use Rattle.packet.specs.Groups.{records_at}
use Rattle.packet.proofs.GroupChanges.{IsWalked}
use Rattle.right_rows.specs.Rights.{AreKeyed, AreRecordsOf}
use Rattle.right_rows.proofs.Taken.{OwnGroup}
use Rattle.right_rows.proofs.pieces.change_groups.Given as goal

abbrev pub invariant-loop-key : goal.invariant-loop-key
invariant-loop-key l = record {
  walked : IsWalked l.source l.fn.kept l.fn.groups l.kept l.key-iterator;
  owned : (column : ℕ) (aggregate : Option Aggregate) → ((k : Value) → AreRecordsOf column aggregate (datum_of k) (records_at l.fn.groups (datum_of k))) → Each (OwnGroup column aggregate) l.key-iterator;
  keyed : (column : ℕ) (aggregate : Option Aggregate) → ((k : Value) → AreRecordsOf column aggregate (datum_of k) (records_at l.fn.groups (datum_of k))) → AreKeyed column aggregate l.fn.kept → AreKeyed column aggregate l.kept;
}
