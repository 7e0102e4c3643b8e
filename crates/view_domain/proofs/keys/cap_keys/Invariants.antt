use Rattle.std.proofs.Common.{◌≡◌, ◌-◌, List, Option}
use Rattle.row.specs.Cells.{Cells}
use Rattle.row.specs.Groups.{equal}
use Rattle.row.specs.declared.value.Value.{Value}
use Rattle.partial.specs.States.{state_of}
use Rattle.partial.specs.Sums.{sum_of_bags}
use Rattle.partial.specs.Truth.{IsTrueOf}
use Rattle.packet.specs.Keys.{stands_of}
use Rattle.protocol.specs.ViewSteps.{shrink, capped}
use Rattle.view_domain.specs.Shown.{LeadsTo}
use Rattle.view_domain.proofs.keys.cap_keys.Given as goal

abbrev pub invariant-loop-gone : goal.invariant-loop-gone
invariant-loop-gone l = record {
  sources : l.kept.sources ≡ l.fn.kept.sources;
  stands : shrink (l._gone-end - l._gone) (stands_of l.kept) ≡ capped l.cap (stands_of l.fn.kept);
  truth : (k : Value) (parts : List (List Cells)) → IsTrueOf sum_of_bags parts (state_of equal l.fn.kept k) → IsTrueOf sum_of_bags parts (state_of equal l.kept k);
  shown : (first : Value → Option (List Cells)) → LeadsTo first l.fn.told.items l.fn.kept → LeadsTo first l.told.items l.kept;
}
