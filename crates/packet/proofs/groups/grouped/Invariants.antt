use Rattle.std.proofs.Common.{◌≡◌}
use Rattle.row.specs.Cells.{Datum}
use Rattle.packet.specs.Keys.{is_among}
use Rattle.packet.specs.Truth.{changes_at}
use Rattle.packet.specs.Groups.{records_at, names_of, named_in}
use Rattle.packet.proofs.groups.grouped.Given as goal

abbrev pub invariant-loop-keyed : goal.invariant-loop-keyed
invariant-loop-keyed l = record {
  records : (d : Datum) → records_at l.groups d ≡ changes_at d l.yielded;
  names : (d : Datum) → is_among (names_of l.groups) d ≡ is_among (named_in l.yielded) d;
}
