use Rattle.std.proofs.Common.{◌≡◌, true, [], ◌∷◌, ◌++◌, sym, ◌∙◌, ap, subst}
use Rattle.row.specs.Bags.{Each}
use Rattle.row.specs.Cells.{cell_at}
use Rattle.row.specs.declared.record.Record.{Record}
use Rattle.ops.specs.SideRows.{Rows}
use Rattle.stage_sides.specs.Sides.{IsNamed, is_filled_at}
use Rattle.stage_sides.proofs.HeldSteps.{IsSplit, split_known, each_push}
use Rattle.stage_sides.proofs.keys.split.Goals as goal

pub loop-record-preserved-in-Continue-1 : goal.loop-record-preserved-in-Continue-1
loop-record-preserved-in-Continue-1 c =
    let right = c.args.stage.now.right in
    let filled : is_filled_at right c.in-Some.record.row ≡ true = sym (c.is_known.ensures.known ∙ ap (λ (i : Rows). is_filled_at i c.in-Some.record.row) c.rows-right.ensures) ∙ c.if-is_known.true in
    let named = subst (λ (i : Rows). IsNamed (cell_at c.in-Some.record.row i.column)) c.rows-right.ensures c.is_known.ensures.named in (
      subst (λ ks. IsSplit (λ (r : Record). is_filled_at right r.row) (c.loop-record.yielded ++ c.in-Some.record ∷ []) ks c.loop-record.others.items) (sym c.in_ok-push.ensures.items)
          (split_known (λ (r : Record). is_filled_at right r.row) c.loop-record.yielded c.loop-record.known.items c.loop-record.others.items c.in-Some.record c.loop-record.invariant.0 filled),
      subst (Each (λ (r : Record). IsNamed (cell_at r.row right.column))) (sym c.in_ok-push.ensures.items)
          (each_push (λ (r : Record). IsNamed (cell_at r.row right.column)) c.loop-record.known.items c.in-Some.record c.loop-record.invariant.1 named),
    )
