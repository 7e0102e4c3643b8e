-- The sum of bags of rows.
use Rattle.std.specs.Prelude.{List}
use Rattle.row.specs.Cells.{Cells, row_cmp}
use Rattle.row.specs.Bags.{sorted, joined}

-- the rows of all bags, in order
abbrev pub sum_of_bags : List (List Cells) → List Cells
sum_of_bags pieces = sorted row_cmp (joined pieces)
