use Rattle.std.proofs.Common.{arith, ◌≡◌, ◌<◌, length, get_or, ap, ◌∙◌}
use Rattle.std.proofs.lemmas.Grind.{common_steps}
use Rattle.std.specs.Ordering.{is_eq}
use Rattle.row.specs.Cells.{row_cmp}
use Rattle.row.specs.CellOrder.{row_total}
use Rattle.row.specs.Bags.{times, IsAscending}
use Rattle.row.proofs.BagLemmas.{times_there, place_there, removed_inside}
use Rattle.key_rows.proofs.list.PlacedRows.has_at.Goals as goal

pub returns-then-at-rows : goal.returns-then-at-rows
returns-then-at-rows c =
    let rows = c.as_slice-rows.result.now in
    let same : rows ≡ c.args.self.now = c.as_slice-rows.ensures.rows in
    let up : IsAscending row_cmp rows = rw same c.as_slice-rows.ensures.in_order in
    let found = c.index-rows-at.result in
    let answer : c.is_eq.result ≡ is_eq (row_cmp c.args.row.now (get_or rows c.args.at found)) =
    c.is_eq.ensures ∙ (ap is_eq c.compare.ensures ∙ ap (λ y. is_eq (row_cmp c.args.row.now y)) c.index-rows-at.is)
    in rw (← same, answer) (
      λ h. times_there row_cmp c.args.row.now rows c.args.at found c.if-at-rows.true h,
      λ there. place_there row_cmp row_total c.args.row.now rows c.args.at up (rw same c.requires.small) (rw same c.requires.place) there found,
    )

pub returns-else-at-rows : goal.returns-else-at-rows
returns-else-at-rows c =
    let rows = c.as_slice-rows.result.now in
    let same : rows ≡ c.args.self.now = c.as_slice-rows.ensures.rows in
    let up : IsAscending row_cmp rows = rw same c.as_slice-rows.ensures.in_order in
    let inside : 0 < times row_cmp c.args.row.now rows → c.args.at < length rows =
    removed_inside row_cmp row_total c.args.row.now rows c.args.at up (rw same c.requires.small) (rw same c.requires.place)
    in rw (← same) (
      λ h. absurd (grind (arith, common_steps)),
      λ there. absurd (omega (arith, inside there)),
    )
