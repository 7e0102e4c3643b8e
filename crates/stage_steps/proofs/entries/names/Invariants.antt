use Rattle.std.proofs.Common.{◌≡◌, map, take}
use Rattle.row.specs.Bags.{sorted}
use Rattle.row.specs.Cells.{datum_cmp}
use Rattle.plan.specs.Layouts.{ViewLayout}
use Rattle.plan.specs.Outputs.{keys_of}
use Rattle.stage_sides.specs.Held.{untold_lefts}
use Rattle.stage_steps.specs.Told.{names_in}
use Rattle.stage_steps.proofs.entries.names.Given as goal

abbrev pub invariant-loop-view : goal.invariant-loop-view
invariant-loop-view l = names_in l.names.items ≡ map (λ (v : ViewLayout). sorted datum_cmp (keys_of v.key (untold_lefts l.side l.rows l.records))) (take l.view l.plan.views)
