use Rattle.std.proofs.Common.{◌∙◌, ap, sym, arith, slice_get, zero}
use Rattle.row.specs.Cells.{datum_of}
use Rattle.row.proofs.Packing.{packed_at, packed_before, packed_behind, packed_past, packed_fits, packed_shown}
use Rattle.row.proofs.cells.Cells.slot.Goals as goal

pub returns-then-at-before : goal.returns-then-at-before
returns-then-at-before c =
    let p = c.in-Packed in
    let fits = packed_fits c.self.inside.kept p.before p.after p.numbers p.value c.self.invariant p.is in
    let shown = packed_shown c.self.inside.kept c.args.self.now p.before p.after p.numbers p.value c.self.view_is p.is in
    sym (ap (λ row. slice_get row c.args.at) shown ∙ packed_at p.before p.after p.numbers (datum_of p.value) c.args.at (omega (arith, fits.0, fits.1)) (omega (arith, c.if-at-before.true, c.from-before.ensures)))

pub returns-then-at-before-2 : goal.returns-then-at-before-2
returns-then-at-before-2 c =
    let p = c.in-Packed in
    let fits = packed_fits c.self.inside.kept p.before p.after p.numbers p.value c.self.invariant p.is in
    let shown = packed_shown c.self.inside.kept c.args.self.now p.before p.after p.numbers p.value c.self.view_is p.is in
    sym (ap (λ row. slice_get row c.args.at) shown ∙ packed_before p.before p.after p.numbers (datum_of p.value) c.args.at zero (omega (arith, c.if-at-before-2.true, c.from-before.ensures)) (omega (arith, fits.0, fits.1, c.if-at-before-2.true, c.from-before.ensures)))

pub returns-then-at-before-3 : goal.returns-then-at-before-3
returns-then-at-before-3 c =
    let p = c.in-Packed in
    let fits = packed_fits c.self.inside.kept p.before p.after p.numbers p.value c.self.invariant p.is in
    let shown = packed_shown c.self.inside.kept c.args.self.now p.before p.after p.numbers p.value c.self.view_is p.is in
    sym (ap (λ row. slice_get row c.args.at) shown ∙ packed_behind p.before p.after p.numbers (datum_of p.value) c.args.at zero (omega (arith, fits.0, fits.1)) (omega (arith, c.if-at-before.false, c.if-at-before-2.false, c.from-before.ensures)) (omega (arith, c.if-at-before-3.true, c.from-before.ensures, c.from.ensures)))

pub returns-else-at-before-3 : goal.returns-else-at-before-3
returns-else-at-before-3 c =
    let p = c.in-Packed in
    let fits = packed_fits c.self.inside.kept p.before p.after p.numbers p.value c.self.invariant p.is in
    let shown = packed_shown c.self.inside.kept c.args.self.now p.before p.after p.numbers p.value c.self.view_is p.is in
    sym (ap (λ row. slice_get row c.args.at) shown ∙ packed_past p.before p.after p.numbers (datum_of p.value) c.args.at (omega (arith, fits.0, fits.1)) (omega (arith, c.if-at-before-3.false, c.from-before.ensures, c.from.ensures)))
