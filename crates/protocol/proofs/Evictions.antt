-- The keys of left rows, and that they are told by what they are.
use Rattle.std.proofs.Common.{◌≡◌, ◌&&◌, List, ap, sym, ◌∙◌}
use Rattle.row.specs.Cells.{Datum, Cells, datum_cmp}
use Rattle.row.specs.Bags.{sorted}
use Rattle.plan.specs.Layouts.{Layout, view_at}
use Rattle.plan.specs.Outputs.{keys_of}
use Rattle.packet.specs.Readers.{Reader, is_of}
use Rattle.packet.proofs.Ascending.{ascends_filter, ascends_keys, among_filter, among_sorted, among_keys, one_set}
use Rattle.protocol.specs.Laws.{AreKeys, EveryEviction}

pub every_eviction : EveryEviction
every_eviction p rows r =
    let c = (view_at p r.view).key in
    let own = λ (k : Datum). is_of p r.view k r in
    record {
      order = ascends_filter own (sorted datum_cmp (keys_of c rows)) (ascends_keys c rows);
      each = λ k. among_filter own (sorted datum_cmp (keys_of c rows)) k ∙ ap (λ b. own k && b) (among_sorted (keys_of c rows) k ∙ among_keys c rows k);
    }

-- there is one such list
pub one_list : (p : Layout) (rows : List Cells) (r : Reader) (xs ys : List Datum) → AreKeys p rows r xs → AreKeys p rows r ys → xs ≡ ys
one_list p rows r xs ys a b = one_set xs ys a.order b.order (λ k. a.each k ∙ sym (b.each k))
