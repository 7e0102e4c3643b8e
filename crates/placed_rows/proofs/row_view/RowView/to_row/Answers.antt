use Rattle.std.proofs.Common.{[], ◌∷◌, ◌++◌, ◌∙◌, ap, map}
use Rattle.std.proofs.lemmas.List.{map-append}
use Rattle.row.specs.Cells.{datum_of}
use Rattle.row.proofs.Sums.{cells_more}
use Rattle.placed_rows.specs.Values.{datum_at}
use Rattle.placed_rows.proofs.row_view.RowView.to_row.Goals as goal

pub loop-at-preserved : goal.loop-at-preserved
loop-at-preserved c =
    ap (map datum_of) c.in_ok-push.ensures.items
    ∙ (map-append datum_of c.loop-at.values.items (c.in_ok-to_value.field-0 ∷ [])
    ∙ (ap (λ d. map datum_of c.loop-at.values.items ++ d ∷ []) c.in_ok-to_value.ensures
    ∙ cells_more [] (map datum_of c.loop-at.values.items) c.args.self.now c.loop-at.at (datum_at c.field.result) c.field.ensures c.loop-at.invariant))
