use Rattle.std.proofs.Common.{◌≡◌, ◌-◌, ◌<◌, length, arith, ap, ◌∙◌}
use Rattle.row.specs.Cells.{row_cmp}
use Rattle.row.specs.CellOrder.{row_total}
use Rattle.row.specs.Bags.{removed, joined}
use Rattle.key_rows.specs.Pieces.{IsPieceOf}
use Rattle.key_rows.proofs.Pieced.{length-removed-le, piece_taken, piece_shorter}
use Rattle.key_rows.proofs.pieces.take_away.Goals as goal

pub overflow_sub-taken : goal.overflow_sub-taken
overflow_sub-taken c =
    omega (arith, c.len.ensures.rows, c.len-before.ensures.rows, ap length c.take_away.ensures, length-removed-le row_cmp c.args.row.now c.in_ok-rows.rows)

pub returns-clause-ok : goal.returns-clause-ok
returns-clause-ok c =
    let ps = c.args.pieces.now.items in
    let at = c.place-at.result in
    let same : c.deref.result.now ≡ ps = c.deref.ensures.value in
    let small : at < length ps = rw same at c.place-at.ensures.small in
    let place : IsPieceOf row_cmp c.args.row.now ps at = rw same at c.place-at.ensures.place in
    piece_taken row_cmp row_total c.args.row.now ps at small place c.index.result.now c.take_away.new.self (joined c.put.new.pieces.items) c.index.ensures c.in_ok-put.ensures.ok c.requires
    (c.take_away.ensures ∙ ap (removed row_cmp c.args.row.now) c.in_ok-rows.ensures)

pub returns-clause-taken : goal.returns-clause-taken
returns-clause-taken c =
    let ps = c.args.pieces.now.items in
    let at = c.place-at.result in
    let same : c.deref.result.now ≡ ps = c.deref.ensures.value in
    let small : at < length ps = rw same at c.place-at.ensures.small in
    let place : IsPieceOf row_cmp c.args.row.now ps at = rw same at c.place-at.ensures.place in
    piece_shorter row_cmp row_total c.args.row.now ps at small place c.index.result.now c.take_away.new.self (joined c.put.new.pieces.items) c.index.ensures c.in_ok-put.ensures.ok
    (c.len-before.result - c.len.result)
    (c.take_away.ensures ∙ ap (removed row_cmp c.args.row.now) c.in_ok-rows.ensures)
    (omega (arith, c.len.ensures.rows, c.len-before.ensures.rows, ap length c.in_ok-rows.ensures))
