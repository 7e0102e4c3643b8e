use Rattle.std.proofs.Common.{ap, arith, length}
use Rattle.row.specs.Cells.{datum_of}
use Rattle.row.proofs.Packing.{packed_length, packed_fits, packed_shown}
use Rattle.row.proofs.cells.Cells.len.Goals as goal

pub returns-in-Packed : goal.returns-in-Packed
returns-in-Packed c =
    let p = c.in-Packed in
    let fits = packed_fits c.self.inside.kept p.before p.after p.numbers p.value c.self.invariant p.is in
    let shown = packed_shown c.self.inside.kept c.args.self.now p.before p.after p.numbers p.value c.self.view_is p.is in
    omega (arith, packed_length p.before p.after p.numbers (datum_of p.value) (omega (arith, fits.0, fits.1)), ap length shown, c.from.ensures, c.from-in-Packed.ensures)
