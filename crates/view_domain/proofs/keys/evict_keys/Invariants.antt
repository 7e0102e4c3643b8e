use Rattle.std.proofs.Common.{◌≡◌, ◌++◌, List, Option, map}
use Rattle.row.specs.Cells.{Cells, datum_of}
use Rattle.row.specs.Groups.{equal}
use Rattle.row.specs.declared.value.Value.{Value}
use Rattle.partial.specs.States.{state_of}
use Rattle.packet.specs.Keys.{Ascends, stands_of}
use Rattle.protocol.specs.ViewSteps.{drop_all, again as asked_again}
use Rattle.view_domain.specs.Shown.{LeadsTo}
use Rattle.view_domain.specs.Taken.{evicted_all}
use Rattle.view_domain.proofs.keys.evict_keys.Given as goal

abbrev pub invariant-loop-key : goal.invariant-loop-key
invariant-loop-key l = record {
  up : Ascends (map datum_of l.key-iterator.rest.items);
  sources : l.kept.sources ≡ l.fn.kept.sources;
  stands : drop_all l.source (map datum_of l.key-iterator.rest.items) (stands_of l.kept) ≡ drop_all l.source (map datum_of l.fn.keys.items) (stands_of l.fn.kept);
  state : (k : Value) → evicted_all l.source (map datum_of l.key-iterator.rest.items) (datum_of k) (state_of equal l.kept k) ≡ evicted_all l.source (map datum_of l.fn.keys.items) (datum_of k) (state_of equal l.fn.kept k);
  shown : (first : Value → Option (List Cells)) → LeadsTo first l.fn.told.items l.fn.kept → LeadsTo first l.told.items l.kept;
  asks : map datum_of l.asks.items ++ asked_again l.source (map datum_of l.key-iterator.rest.items) (stands_of l.kept) ≡ map datum_of l.fn.asks.items ++ asked_again l.source (map datum_of l.fn.keys.items) (stands_of l.fn.kept);
}
