use Rattle.std.proofs.Common.{◌≡◌, map, cond, take}
use Rattle.row.specs.Cells.{datum_of, has}
use Rattle.plain.proofs.rows.replaced.Given as goal

abbrev pub invariant-loop-old : goal.invariant-loop-old
invariant-loop-old l = l.after.items ≡ map (λ x. cond (has l.key (datum_of l.value) x) l.row x) (take l.old-index l.old-items)
