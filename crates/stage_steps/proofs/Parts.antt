-- What is here of a view's key is the stage shard's part of it, where nothing that it needs is lacking.
use Rattle.std.proofs.Common.{◌≡◌, ℕ, ◌<◌, Bool, true, List, [], ◌∷◌, ◌++◌, map, flat_map, filter, drop, length, Option, Some, None, refl, ap, sym, ◌∙◌, subst, arith}
use Rattle.std.specs.Global.{Global}
use Rattle.std.specs.List.{list_all}
use Rattle.row.specs.Bags.{Each, IsAlike, sorted, times}
use Rattle.row.specs.Cells.{Cells, Datum, cell_at, has, row_cmp}
use Rattle.row.specs.CellOrder.{row_total, row_same}
use Rattle.row.proofs.Alike.{sorted_alike, filter_alike}
use Rattle.row.proofs.Filtered.{Each-both, Each-filter}
use Rattle.row.proofs.BagLemmas.{Each-at, times-append, times-sorted}
use Rattle.plan.specs.Facts.{Facts, IsView}
use Rattle.plan.specs.Kinds.{is_row}
use Rattle.plan.specs.Layouts.{Layout, SideLayout, no_view, table_at, view_at}
use Rattle.plan.specs.Outputs.{key_place, out, output, partners, with_total}
use Rattle.plan.specs.declared.kinds.Aggregate.{Aggregate}
use Rattle.plan.proofs.Both.{and_both, and_left, and_right}
use Rattle.plan.proofs.OutputLaws.{map_alike, output_alike, with_total_alike}
use Rattle.model.specs.Places.{side_count}
use Rattle.model.specs.Queries.{Line, left, part, right_rows, side_rows}
use Rattle.ops.specs.SideRows.{is_here, is_of}
use Rattle.ops.specs.Stages.{right_key}
use Rattle.model.specs.Fronts.{LogView}
use Rattle.packet.specs.Codes.{stage_packet_of}
use Rattle.packet.specs.Keys.{Keys}
use Rattle.packet.specs.Lines.{entries_of, lengths_of, plan_of}
use Rattle.packet.specs.Messages.{Piece}
use Rattle.packet.specs.declared.reader.Reader.{Reader}
use Rattle.packet.specs.declared.stage_packet.Content.{Content}
use Rattle.protocol.proofs.Runs.{line_self}
use Rattle.protocol.specs.Stages.{behind, knows}
use Rattle.right_rows.specs.Rights.{keys_in}
use Rattle.stage_sides.specs.Held.{output_over}
use Rattle.stage_sides.specs.Sides.{is_known}
use Rattle.stage_sides.proofs.Pieces.{joins, totals}
use Rattle.stage_steps.specs.Shards.{HoldsRight, IsWhole, Shard, stage_of}
use Rattle.stage_steps.proofs.Here.{can_name, row_can, rows_named_at}
use Rattle.stage_steps.specs.Told.{answer_of}
use Rattle.stage_steps.proofs.Lines.{shorter_is}
use Rattle.stage_steps.proofs.LeftRows.{rows_wide, sorted_are_rows}
use Rattle.stage_steps.proofs.Entered.{alone, like}

-- ---- lists
each_mapped : (f : Datum → Bool) (g : Cells → Datum) (ls : List Cells) → list_all f (map g ls) ≡ true → Each (λ l. f (g l) ≡ true) ls
each_mapped f g [] h = tt
each_mapped f g (l ∷ ls) h = (and_left (f (g l)) (list_all f (map g ls)) h, each_mapped f g ls (and_right (f (g l)) (list_all f (map g ls)) h))

then_alike : (xs ys zs : List Cells) → IsAlike row_cmp xs ys → IsAlike row_cmp ys zs → IsAlike row_cmp xs zs
then_alike xs ys zs h k = record { each = λ z. h.each z ∙ k.each z }

back_alike : (xs ys : List Cells) → IsAlike row_cmp xs ys → IsAlike row_cmp ys xs
back_alike xs ys h = record { each = λ z. sym (h.each z) }

-- ---- the output over left rows whose partners are here
all_alike : (f g : Cells → List Cells) (ls : List Cells) → Each (λ l. IsAlike row_cmp (f l) (g l)) ls → IsAlike row_cmp (flat_map f ls) (flat_map g ls)
all_alike f g [] h = record { each = λ z. refl }
all_alike f g (l ∷ ls) h = let rest = all_alike f g ls h.1 in record { each = λ z. let a = h.0.each z in let b = rest.each z in omega (arith, a, b, times-append row_cmp z (f l) (flat_map f ls), times-append row_cmp z (g l) (flat_map g ls)) }

module _ (left side : SideLayout) (here rights : List Cells) where
  abbrev IsComplete : Cells → Type 0
  IsComplete l = IsAlike row_cmp (partners left side here l) (partners left side rights l)

  known_alike : (a : Option Aggregate) (ls : List Cells) → Each IsComplete ls → IsAlike row_cmp (output left (Some side) a ls here) (output left (Some side) a ls rights)
  known_alike None ls h =
      all_alike (λ l. map (λ r. l ++ r) (partners left side here l)) (λ l. map (λ r. l ++ r) (partners left side rights l)) ls
      (Each-both IsComplete IsComplete _ ls (λ l c d. map_alike (λ r. l ++ r) (partners left side here l) (partners left side rights l) c) h h)
  known_alike (Some a) ls h =
      all_alike (λ l. with_total a l (partners left side here l)) (λ l. with_total a l (partners left side rights l)) ls
      (Each-both IsComplete IsComplete _ ls (λ l c d. record { each = λ z. ap (times row_cmp z) (with_total_alike a l (partners left side here l) (partners left side rights l) c) }) h h)

of_key : (left side : SideLayout) (c : ℕ) (k : Datum) (a : Option Aggregate) (ls rights : List Cells) → Each (λ l. c < length l) ls → filter (has c k) (output left (Some side) a ls rights) ≡ output left (Some side) a (filter (has c k) ls) rights
of_key left side c k None ls rights wide = joins left side c k ls rights wide
of_key left side c k (Some a) ls rights wide = totals left side a c k ls rights wide

knows_here : (keys : Option Keys) (k : Datum) → knows keys k ≡ true → is_known k keys ≡ true
knows_here None k h = h
knows_here (Some keys) k h = h

-- ---- a view's key
module _ (x : Shard) (facts : Facts x.plan) (alloc : Global) (whole : IsWhole x) (column : x.rows.right.column ≡ right_key x.rows.plan.right) (known : (k : Datum) → is_here x.rows.right k ≡ is_known k (keys_in x.rows.right)) where
  module _ (i : ℕ) (view : i < length x.plan.views) (k : Datum) (all : list_all (knows (keys_in x.rows.right)) (behind (stage_of x) i k) ≡ true) where
    abbrev ls : List Cells
    ls = sorted row_cmp (left x.plan x.shard (entries_of x.line))

    abbrev fronts : Line
    fronts = drop (side_count x.plan x.plan.left) (entries_of x.line)

    abbrev own_key : ℕ
    own_key = (view_at x.plan i).key

    small : own_key < length (table_at x.plan x.plan.left.table).columns
    small = let v : IsView x.plan (view_at x.plan i) = Each-at (IsView x.plan) x.plan.views facts.views i no_view view in v.key

    rows : Each (λ l. is_row (table_at x.plan x.plan.left.table).columns l ≡ true) ls
    rows = sorted_are_rows x.plan x.shard (entries_of x.line) ls facts whole.fronts refl

    complete : (side : SideLayout) → x.plan.right ≡ Some side → (l : Cells) → is_row (table_at x.plan x.plan.left.table).columns l ≡ true → knows (keys_in x.rows.right) (cell_at l x.plan.left.key) ≡ true
        → IsAlike row_cmp (partners x.plan.left side x.rows.right.rows l) (partners x.plan.left side (side_rows x.plan x.shard side fronts) l)
    complete side there l row knows_it =
        let own : HoldsRight x.plan x.shard (Some side) fronts x.rows.right = subst (λ o. HoldsRight x.plan x.shard o fronts x.rows.right) there whole.rows.right in
        let column_is : x.rows.right.column ≡ side.key = column ∙ (ap (λ (q : Layout). right_key q.right) whole.rows.plan ∙ ap right_key there) in
        let key = cell_at l x.plan.left.key in
        let here : is_here x.rows.right key ≡ true = known key ∙ knows_here (keys_in x.rows.right) key knows_it in
        let can : can_name key ≡ true = row_can (table_at x.plan x.plan.left.table).columns l x.plan.left.key row facts.left.key in
        rows_named_at x.rows.right own.0 known alloc x.plan x.shard side fronts column_is own.2 key (and_both (is_of x.rows.right.keys key) (can_name key) here can)

    by : (o : Option SideLayout) → x.plan.right ≡ o → IsAlike row_cmp (filter (has (key_place o x.plan.aggregate own_key) k) (output x.plan.left o x.plan.aggregate ls x.rows.right.rows)) (filter (has (key_place o x.plan.aggregate own_key) k) (output x.plan.left o x.plan.aggregate ls (right_rows x.plan x.shard o fronts)))
    by None there =
        let here = x.rows.right.rows in
        let test = has (key_place None x.plan.aggregate own_key) k in
        subst (λ ys. IsAlike row_cmp (filter test (output x.plan.left None x.plan.aggregate ls here)) (filter test ys)) (alone x.plan.left x.plan.aggregate ls here []) (like (filter test (output x.plan.left None x.plan.aggregate ls here)))
    by (Some side) there =
        let wide = rows_wide x.plan own_key ls small rows in
        let each = Each-both _ _ _ (filter (has own_key k) ls) (complete side there) (Each-filter _ (has own_key k) ls rows) (each_mapped (knows (keys_in x.rows.right)) (λ l. cell_at l x.plan.left.key) (filter (has own_key k) ls) all) in
        rw (of_key x.plan.left side own_key k x.plan.aggregate ls x.rows.right.rows wide, of_key x.plan.left side own_key k x.plan.aggregate ls (side_rows x.plan x.shard side fronts) wide)
        (known_alike x.plan.left side x.rows.right.rows (side_rows x.plan x.shard side fronts) x.plan.aggregate (filter (has own_key k) ls) each)

    pub part_here : sorted row_cmp (filter (has (key_place x.rows.plan.right x.rows.plan.aggregate (view_at x.rows.plan i).key) k) (output_over x.rows)) ≡ sorted row_cmp (part x.plan x.shard (entries_of x.line) i k)
    part_here =
        let p = x.plan in
        let test = has (key_place p.right p.aggregate own_key) k in
        let here = x.rows.right.rows in
        let rights = right_rows p x.shard p.right fronts in
        let left_rows = left p x.shard (entries_of x.line) in
        let to_sorted : IsAlike row_cmp left_rows ls = record { each = λ z. sym (times-sorted row_cmp z left_rows) } in
        let a = output_alike p.left p.right p.aggregate x.rows.lefts ls here here (then_alike x.rows.lefts left_rows ls whole.rows.lefts to_sorted) (like here) in
        let b = output_alike p.left p.right p.aggregate ls left_rows rights rights (back_alike left_rows ls to_sorted) (like rights) in
        let first = filter_alike row_cmp row_total row_same test (out p x.rows.lefts here) (out p ls here) a in
        let last = filter_alike row_cmp row_total row_same test (out p ls rights) (out p left_rows rights) b in
        subst (λ (q : Layout). sorted row_cmp (filter (has (key_place q.right q.aggregate (view_at q i).key) k) (out q x.rows.lefts here)) ≡ sorted row_cmp (part p x.shard (entries_of x.line) i k)) (sym whole.rows.plan)
        (sorted_alike row_cmp row_total row_same (filter test (out p x.rows.lefts here)) (part p x.shard (entries_of x.line) i k)
        (then_alike (filter test (out p x.rows.lefts here)) (filter test (out p ls here)) (filter test (out p left_rows rights)) first
        (then_alike (filter test (out p ls here)) (filter test (out p ls rights)) (filter test (out p left_rows rights)) (by p.right refl) last)))

-- ---- a packet by its parts
pub piece_is : (x : Piece) (tag tag' : ℕ) (k k' : Datum) (rows rows' : List Cells) → x ≡ record { tag = tag; key = k; rows = rows } → tag ≡ tag' → k ≡ k' → rows ≡ rows' → x ≡ record { tag = tag'; key = k'; rows = rows' }
piece_is x tag tag' k k' rows rows' e a b d = e ∙ rw (a, b, d) refl

pub same_answer : (p : Layout) (s : ℕ) (r : Reader) (lengths : List ℕ) (line again : List LogView) (tag : ℕ) (k : Datum) (c : Content) → plan_of line ≡ p → again ≡ line → lengths ≡ lengths_of line → c.changes.items ≡ [] → c.evicts.items ≡ []
    → c.piece ≡ Some (record { tag = tag; key = k; rows = sorted row_cmp (part p s (entries_of line) r.view k) }) → c.marker ≡ None → stage_packet_of s r lengths again c ≡ answer_of p s (entries_of line) tag r.view r.shard k
same_answer p s r lengths line again tag k c plan same count none no_evicts piece no_marker = rw (same, plan, count, none, no_evicts, piece, no_marker, shorter_is line line (line_self (entries_of line))) refl
