use Rattle.std.proofs.Common.{List, Option}
use Rattle.row.specs.Cells.{Cells}
use Rattle.row.specs.declared.value.Value.{Value}
use Rattle.view_domain.specs.Shown.{LeadsTo}
use Rattle.packet.proofs.GroupChanges.{IsWalked}
use Rattle.view_domain.proofs.keys.change_keys.Given as goal

abbrev pub invariant-loop-key : goal.invariant-loop-key
invariant-loop-key l = record {
  walked : IsWalked l.source l.fn.kept l.fn.groups l.kept l.key-iterator;
  shown : (first : Value → Option (List Cells)) → LeadsTo first l.fn.told.items l.fn.kept → LeadsTo first l.told.items l.kept;
}
