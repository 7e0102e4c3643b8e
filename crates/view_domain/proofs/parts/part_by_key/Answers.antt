use Rattle.std.proofs.Common.{subst}
use Rattle.row.specs.Cells.{datum_of}
use Rattle.view_domain.specs.Parts.{AreOf}
use Rattle.view_domain.proofs.PartSteps.{one_names, one_records}
use Rattle.view_domain.proofs.parts.part_by_key.Goals as goal

pub returns-in_ok-records-in-Some-clause-records : goal.returns-in_ok-records-in-Some-clause-records
returns-in_ok-records-in-Some-clause-records c =
    let of : AreOf (datum_of c.in-Some.key) c.args.changes.items = subst (AreOf (datum_of c.in-Some.key)) c.deref.ensures.value (rw c.in-Some.is at c.in_ok-key.ensures) in
    one_records c.in-Some.key c.in_ok-records-in-Some.records c.args.changes.items of c.in_ok-records-in-Some.ensures

pub returns-in_ok-records-in-Some-clause-names : goal.returns-in_ok-records-in-Some-clause-names
returns-in_ok-records-in-Some-clause-names c =
    let of : AreOf (datum_of c.in-Some.key) c.args.changes.items = subst (AreOf (datum_of c.in-Some.key)) c.deref.ensures.value (rw c.in-Some.is at c.in_ok-key.ensures) in
    one_names c.in-Some.key c.in_ok-records-in-Some.records c.args.changes.items of c.in_ok-records-in-Some.ensures
