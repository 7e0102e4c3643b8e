use Rattle.std.proofs.Common.{◌∙◌, ◌++◌, ◌∷◌, [], ap, sym, arith, rules}
use Rattle.row.specs.Cells.{datum_of}
use Rattle.row.specs.Packed.{packed}
use Rattle.row.proofs.Packing.{packed_led}
use Rattle.row.proofs.cells.packed_with.Goals as goal

pub returns-then-width-lt3 : goal.returns-then-width-lt3
returns-then-width-lt3 c =
    let a = c.args in
    c.packed_in-then-width-lt3.ensures
    ∙ packed_led a.before a.after a.numbers c.in-Some-small_of.small (datum_of a.value) c.if-before-eq0.true (omega (arith, c.if-width-lt3.true, c.from.ensures, c.from-2.ensures)) (search rules)
    ∙ ap (λ d. packed a.before a.after a.numbers d ++ datum_of a.value ∷ []) (sym c.in-Some-small_of.ensures)
