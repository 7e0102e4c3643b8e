use Rattle.std.proofs.Common.{◌≡◌, length, map}
use Rattle.std.specs.Cow.{cow_str_bytes}
use Rattle.row.specs.Cells.{datum_of}
use Rattle.script.specs.Columns.{AreCells, kind_of_column}
use Rattle.script.proofs.columns.row_of.Given as goal

-- the words so far are the cells so far
abbrev pub invariant-loop-word : goal.invariant-loop-word
invariant-loop-word l = record {
  read : AreCells (kind_of_column l.plan l.table) 0 (map cow_str_bytes l.yielded) (map datum_of l.cells.items);
  counted : length l.yielded ≡ length l.cells.items;
}
