-- Printed cuts.
use Rattle.std.specs.Prelude.{ℕ, List, map}
use Rattle.std.specs.Fmt.{decimal}
use Rattle.row.specs.Printed.{joined}
use Rattle.model.specs.Histories.{Lengths}

-- the lengths of a stage shard, with a comma between each two
abbrev pub printed_line : List ℕ → List ℕ
printed_line line = joined 44 (map decimal line)

-- the stage shards, with a slash between each two
abbrev pub printed_cut : Lengths → List ℕ
printed_cut cut = joined 47 (map printed_line cut)
