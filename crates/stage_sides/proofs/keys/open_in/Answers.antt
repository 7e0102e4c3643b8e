use Rattle.std.proofs.Common.{sym, subst}
use Rattle.row.specs.Cells.{datum_of}
use Rattle.ops.specs.SideRows.{Rows}
use Rattle.ops.specs.Stages.{Sides}
use Rattle.partial.specs.Sums.{sum_of_bags}
use Rattle.partial.specs.Truth.{IsTrueOf}
use Rattle.right_rows.specs.Rights.{state_in}
use Rattle.stage_sides.proofs.keys.open_in.Goals as goal

pub returns-clause-truth : goal.returns-clause-truth
returns-clause-truth c = λ k parts t. subst (λ (s : Sides). IsTrueOf sum_of_bags parts (state_in s.right (datum_of k))) (sym c.over.ensures)
    (c.open-was.ensures.truth k parts (subst (λ (r : Rows). IsTrueOf sum_of_bags parts (state_in r (datum_of k))) (sym c.into_sides-shape.ensures.right) t))
