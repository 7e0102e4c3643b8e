use Rattle.std.proofs.Common.{refl}
use Rattle.shown.proofs.Placed.{no_fronts}
use Rattle.shown.proofs.shown.Shown.new.Goals as goal

pub returns : goal.returns
returns g c =
    let p = g.J.Naming.plan in
    let cut = c.in_ok-zeros.field-0 in
    rw (c.new.ensures, c.in_ok-zeros.ensures.lengths, no_fronts p cut.seen p.stages) refl
