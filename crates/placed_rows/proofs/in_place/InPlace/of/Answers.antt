use Rattle.std.proofs.Common.{[], ◌∷◌, ◌-◌, ◌∙◌, ap, arith}
use Rattle.row.specs.Cells.{text}
use Rattle.row.specs.Packed.{packed}
use Rattle.placed_rows.proofs.Placing.{placed_is}
use Rattle.placed_rows.proofs.in_place.InPlace.of.Goals as goal

pub returns-clause-cells : goal.returns-clause-cells
returns-clause-cells c =
    let row = c.args.row.now in
    let at = c.in_ok-at.at in
    let v = text c.in_ok-text.text.bytes in
    let first = c.in_ok-number_beside in
    let second = c.in_ok-number_beside-2 in
    let third = c.in_ok-number_beside-3 in
    c.new.ensures.cells
    ∙ (ap (λ width. packed at (width - 1 - at) (first.field-0 ∷ second.field-0 ∷ third.field-0 ∷ []) v) c.width-width.ensures
    ∙ placed_is row at v first.field-0 second.field-0 third.field-0 (omega (arith, c.width-width.ensures, c.if-width-gt4.false)) c.in_ok-text.ensures.some (first.ensures.before, first.ensures.behind) (second.ensures.before, second.ensures.behind) (third.ensures.before, third.ensures.behind))
