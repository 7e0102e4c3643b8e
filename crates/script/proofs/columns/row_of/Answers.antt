use Rattle.std.proofs.Common.{◌≡◌, ◌+◌, length, map, arith, subst, sym, ◌∙◌}
use Rattle.std.proofs.lemmas.Grind.{common_steps}
use Rattle.std.proofs.lemmas.List.{length-map, map-append, map-id}
use Rattle.std.proofs.lemmas.Iterator.Adapters.{YieldsList-from_vec}
use Rattle.std.proofs.lemmas.Iterator.Consumers.{YieldsList-end}
use Rattle.std.proofs.lemmas.Result.{IfOk-weaker}
use Rattle.std.specs.Cow.{cow_str_bytes}
use Rattle.row.specs.Cells.{Cells, datum_of}
use Rattle.script.specs.Values.{IsRead}
use Rattle.plan.specs.Layouts.{table_named}
use Rattle.script.specs.Columns.{AreCells, IsRow, kind_of_column}
use Rattle.script.proofs.Cells.{cells_more, cells_once}
use Rattle.script.proofs.columns.row_of.Goals as goal

pub loop-word-preserved : goal.loop-word-preserved
loop-word-preserved c =
    let kinds = kind_of_column c.args.plan.now c.table_named-table.result in
    let words = map cow_str_bytes c.loop-word.yielded in
    let at : c.len.result ≡ 0 + length words = grind (arith, common_steps, length-map, c.loop-word.invariant.counted) in
    let is = subst (λ k. IsRead k (cow_str_bytes c.in-Some.word) (datum_of c.in_ok-value_of.field-0)) c.kind_of_column-kind.ensures c.in_ok-value_of.ensures.read in
    let more = cells_more kinds 0 c.len.result words (map datum_of c.loop-word.cells.items) _ _ at c.loop-word.invariant.read is in
    record {
      read = rw (map-append, c.in_ok-push.ensures.items, map-append) more;
      counted = grind (arith, common_steps, c.loop-word.invariant.counted);
    }

-- all words are the row
read : (c : goal.After-new) (r : Cells) → r ≡ map datum_of c.loop-word.cells.items → IsRow c.args.plan.now c.args.table.now (map cow_str_bytes c.args.words.items) r
read c r is =
    let p = c.args.plan.now in
    let kinds = kind_of_column p c.table_named-table.result in
    let from = c.into_iter-word-iterator.ensures.into_iter_gives in
    let t = YieldsList-end (YieldsList-from_vec {s = c.into_iter-word-iterator.result} c.args.words.items from.0 (from.1 ∙ c.args.words.ok.0)) c.loop-word.yielded c.loop-word.word-iterator c.loop-word.yielded_by c.next.result c.next.new.self c.in-None.is c.next.ensures.steps in
    let whole : c.loop-word.yielded ≡ c.args.words.items = sym (map-id c.loop-word.yielded) ∙ t.0 in
    let words = map cow_str_bytes c.args.words.items in
    let cells = subst (λ ws. AreCells kinds 0 (map cow_str_bytes ws) (map datum_of c.loop-word.cells.items)) whole c.loop-word.invariant.read in
    let row = subst (λ r. AreCells kinds 0 words r) (sym is) cells in
    subst (λ place. AreCells (kind_of_column p place) 0 words r) c.table_named-table.ensures.place row

pub returns-clause-row : goal.returns-clause-row
returns-clause-row c = IfOk-weaker c.new.result (λ r. r ≡ map datum_of c.loop-word.cells.items) (λ r. IsRow c.args.plan.now c.args.table.now (map cow_str_bytes c.args.words.items) r) (read c) c.new.ensures

pub returns-clause-only : goal.returns-clause-only
returns-clause-only c =
    IfOk-weaker c.new.result (λ r. r ≡ map datum_of c.loop-word.cells.items) (λ r. (other : Cells) → IsRow c.args.plan.now c.args.table.now (map cow_str_bytes c.args.words.items) other → other ≡ r)
    (λ r is other own. cells_once (kind_of_column c.args.plan.now (table_named c.args.plan.now c.args.table.now)) 0 (map cow_str_bytes c.args.words.items) other r own (read c r is))
    c.new.ensures
