use Rattle.std.proofs.Common.{◌≡◌, ◌+◌, ◌<◌, ◌++◌, length, take, drop, ap, ◌∙◌}
use Rattle.row.specs.Cells.{row_cmp}
use Rattle.row.specs.CellOrder.{row_total}
use Rattle.row.specs.Bags.{inserted, joined}
use Rattle.key_rows.specs.Pieces.{IsPieceOf}
use Rattle.key_rows.proofs.Pieced.{on_ok, piece_added}
use Rattle.key_rows.proofs.pieces.add.Goals as goal

pub returns-clause-ok : goal.returns-clause-ok
returns-clause-ok c =
    let ps = c.args.pieces.now.items in
    let at = c.place-at.result in
    let q = c.add.new.self in
    let new = c.put.new.pieces.items in
    let same : c.deref.result.now ≡ ps = c.deref.ensures.value in
    let small : at < length ps = rw same at c.place-at.ensures.small in
    let place : IsPieceOf row_cmp c.args.row ps at = rw same at c.place-at.ensures.place in
    on_ok c.put.result (joined new ≡ joined (take at ps) ++ (q ++ joined (drop (at + 1) ps))) (joined new ≡ inserted row_cmp c.args.row (joined ps)) c.put.ensures.ok
    (λ put. piece_added row_cmp row_total c.args.row ps at small place c.index.result.now q (joined new) c.index.ensures put (c.in_ok-add.ensures ∙ ap (inserted row_cmp c.args.row) c.in_ok-rows.ensures))
