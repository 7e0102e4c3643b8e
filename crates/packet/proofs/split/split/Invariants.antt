use Rattle.std.proofs.Common.{◌≡◌, List, ◌++◌, map}
use Rattle.row.specs.declared.record.Record.{Record as RecordView}
use Rattle.packet.specs.Split.{parts_by}
use Rattle.packet.proofs.split.split.Given as goal

abbrev pub invariant-loop-record : goal.invariant-loop-record
invariant-loop-record l = (done : List RecordView) × (done ++ l.record-iterator.rest.items ≡ l.fn.records.items) × (map (λ w. w.items) l.parts.items ≡ parts_by l.column l.n done)
