use Rattle.std.proofs.Common.{sym, arith, zero}
use Rattle.row.specs.Cells.{text}
use Rattle.row.proofs.Packing.{packed_behind, packed_past}
use Rattle.placed_rows.proofs.in_place.InPlace.get.Goals as goal

pub returns-then-column-before-3 : goal.returns-then-column-before-3
returns-then-column-before-3 c =
    let r = c.args.self.now in
    sym (packed_behind r.before r.after r.numbers (text r.text.bytes) c.args.column zero (omega (arith, c.requires.0, c.requires.1)) (omega (arith, c.if-column-before.false, c.if-column-before-2.false, c.from-before.ensures)) (omega (arith, c.if-column-before-3.true, c.from-before.ensures, c.from.ensures)))

pub returns-else-column-before-3 : goal.returns-else-column-before-3
returns-else-column-before-3 c =
    let r = c.args.self.now in
    sym (packed_past r.before r.after r.numbers (text r.text.bytes) c.args.column (omega (arith, c.requires.0, c.requires.1)) (omega (arith, c.if-column-before-3.false, c.from-before.ensures, c.from.ensures)))
