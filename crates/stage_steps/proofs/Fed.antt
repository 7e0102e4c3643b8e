-- A piece of a right source.
use Rattle.std.proofs.Common.{◌≡◌, ℕ, ◌+◌, ◌-◌, ◌<◌, ◌≤◌, ◌==◌, Bool, true, false, not, cond, ◌&&◌, ◌||◌, List, [], ◌∷◌, filter, drop, Option, Some, None, slice_get, refl, ap, sym, ◌∙◌, subst, arith}
use Rattle.std.specs.List.{list_all}
use Rattle.std.specs.Option.{option_map}
use Rattle.std.proofs.lemmas.Bool.Decides.{nat_tests}
use Rattle.std.proofs.lemmas.Option.{slice_get-map}
use Rattle.row.specs.Bags.{Each, IsAlike, IsAscending, sorted}
use Rattle.row.specs.Cells.{Cells, Datum, datum_of, has, has_shard, row_cmp}
use Rattle.row.specs.CellOrder.{row_total, row_same}
use Rattle.row.specs.declared.value.Value.{Value}
use Rattle.row.proofs.Alike.{sorted_alike, filter_alike}
use Rattle.row.proofs.BagLemmas.{IsAscending-sorted, times-sorted}
use Rattle.row.proofs.Filtered.{Each-filter, Each-filtered}
use Rattle.plan.specs.Facts.{Facts}
use Rattle.plan.specs.Kinds.{is_row}
use Rattle.plan.specs.Layouts.{Layout, SideLayout, table_at}
use Rattle.plan.specs.Outputs.{pass}
use Rattle.model.specs.Logs.{Change, fits, rows_of}
use Rattle.model.specs.Places.{layout_of, side_count, source_at, sources}
use Rattle.model.specs.Queries.{Line, stage_rows}
use Rattle.model.proofs.RowFits.{all_filter, rows_fit}
use Rattle.ops.specs.Stages.{right_key}
use Rattle.partial.specs.Sums.{sum_of_bags}
use Rattle.partial.specs.Truth.{IsTrueOf}
use Rattle.packet.specs.Keys.{Keys, give_at}
use Rattle.packet.specs.Lines.{entries_of}
use Rattle.packet.specs.Messages.{BasePacketView, Piece}
use Rattle.packet.specs.Readers.{is_left, right_tag, side_of}
use Rattle.packet.specs.Truth.{IsFrontOf, base_piece, column_of, right_column, right_shares, rows_for}
use Rattle.protocol.specs.Stages.{Done, Stage}
use Rattle.protocol.specs.StageSteps.{piece_given, piece_taken, quiet}
use Rattle.right_rows.specs.Rights.{keys_in, state_in}
use Rattle.stage_sides.specs.Held.{Held}
use Rattle.stage_sides.specs.Kept.{AreOfRight, is_kept, kept_rows, rows_kept}
use Rattle.stage_steps.specs.Outboxes.{AreEdges, OutboxView}
use Rattle.stage_steps.specs.Shards.{HoldsRight, IsFrom, IsPut, IsWhole, Shard, stage_of}
use Rattle.stage_steps.proofs.Fronts.{all_of, drop_get, front_at, right_is, right_room, right_table, share_of}
use Rattle.stage_steps.proofs.LeftRows.{each_of}
use Rattle.stage_steps.proofs.Puts.{after, put_quiet}
use Rattle.stage_steps.proofs.Wholes.{some_after, with_right}
use Rattle.stage_steps.proofs.LeftRows.{each_sorted}

-- ---- the rows of a piece

both_kept : (row passes has_key : Cells → Bool) (xs : List Cells) → Each (λ r. row r ≡ true) xs → filter (λ r. row r && passes r) (filter has_key xs) ≡ filter has_key (filter passes xs)
both_kept row passes has_key [] h = refl
both_kept row passes has_key (x ∷ xs) h = step (has_key x) refl (passes x) refl (both_kept row passes has_key xs h.1)
  where
    step : (a : Bool) → has_key x ≡ a → (b : Bool) → passes x ≡ b → filter (λ r. row r && passes r) (filter has_key xs) ≡ filter has_key (filter passes xs)
        → filter (λ r. row r && passes r) (cond a (x ∷ filter has_key xs) (filter has_key xs)) ≡ filter has_key (cond b (x ∷ filter passes xs) (filter passes xs))
    step true e true f rest = rw (h.0, f, e) (ap (λ l. x ∷ l) rest)
    step true e false f rest = rw (h.0, f) rest
    step false e true f rest = rw e rest
    step false e false f rest = rest

module _ (p : Layout) (s : ℕ) (side : SideLayout) (k : Datum) (front : List Change) (fit : list_all (fits (table_at p side.table)) front ≡ true) where
  abbrev own_rows : List Cells
  own_rows = stage_rows p s side front

  are_rows : Each (λ r. is_row (table_at p side.table).columns r ≡ true) own_rows
  are_rows =
      let t = table_at p side.table in
      each_of (is_row t.columns) own_rows (all_filter (is_row t.columns) (has_shard side.key p.stages s) (rows_of t.key front) (rows_fit t t.key front fit))

  kept_share : sorted row_cmp (filter (is_kept p side) (sorted row_cmp (filter (has side.key k) own_rows))) ≡ share_of p s side k front
  kept_share =
      let keyed = filter (has side.key k) own_rows in
      let in_order : IsAlike row_cmp (sorted row_cmp keyed) keyed = record { each = λ z. times-sorted row_cmp z keyed } in
      sorted_alike row_cmp row_total row_same (filter (is_kept p side) (sorted row_cmp keyed)) (filter (is_kept p side) keyed) (filter_alike row_cmp row_total row_same (is_kept p side) (sorted row_cmp keyed) keyed in_order)
      ∙ ap (sorted row_cmp) (both_kept (is_row (table_at p side.table).columns) (pass side.conditions) (has side.key k) own_rows are_rows)

-- ---- a packet of a right source
module _ (x : Shard) (facts : Facts x.plan) (whole : IsWhole x) (j : ℕ) (k : BasePacketView) (from : IsFrom x.plan x.shard j k) (at : slice_get (entries_of x.line) j ≡ Some k.from) (apart : is_left x.plan j ≡ false) (piece : Piece)
    (own : piece.rows ≡ base_piece k.plan k.base k.stage k.from piece.tag piece.key) (tag : piece.tag ≡ right_tag) where
  abbrev n : ℕ
  n = side_count x.plan x.plan.left

  abbrev i : ℕ
  i = j - n

  abbrev fronts : Line
  fronts = drop n (entries_of x.line)

  low : n ≤ j
  low = grind (arith, nat_tests)

  same : n + i ≡ j
  same = omega (arith, low)

  room : (side : SideLayout) × (x.plan.right ≡ Some side) × (i < side_count x.plan side)
  room = right_room x.plan x.plan.right j apart from.source

  abbrev side : SideLayout
  side = room.0

  at_i : slice_get (entries_of x.line) (n + i) ≡ Some k.from
  at_i = subst (λ m. slice_get (entries_of x.line) m ≡ Some k.from) (sym same) at

  front_is : IsFrontOf x.plan (source_at x.plan (n + i)) k.from
  front_is = front_at x.plan (sources x.plan) (entries_of x.line) (n + i) k.from whole.fronts at_i

  of_side : side_of x.plan (source_at x.plan j) ≡ Some side
  of_side =
      ap (λ m. side_of x.plan (source_at x.plan m)) (sym same) ∙ right_is x.plan x.shard (entries_of x.line) k.from k.from [] facts whole.fronts side room.1 i room.2 at_i front_is (record { each = λ z. refl })

  rows_are : piece.rows ≡ sorted row_cmp (filter (has side.key piece.key) (stage_rows x.plan x.shard side k.from))
  rows_are =
      own
      ∙ ((λ m. base_piece (from.plan m) (from.base m) (from.stage m) k.from (tag m) piece.key)
      ∙ (ap (λ o. sorted row_cmp (filter (has (column_of x.plan right_tag) piece.key) (rows_for x.plan x.shard o k.from))) of_side
      ∙ ap (λ (o : Option SideLayout). sorted row_cmp (filter (has (right_column o) piece.key) (stage_rows x.plan x.shard side k.from))) room.1))

  fit : list_all (fits (table_at x.plan side.table)) k.from ≡ true
  fit =
      let table = ap (table_at x.plan) (right_table x.plan x.shard (entries_of x.line) k.from k.from [] facts whole.fronts side room.1 i room.2 at_i front_is (record { each = λ z. refl })) in
      subst (λ t. list_all (fits t) k.from ≡ true) table (all_of (fits (layout_of x.plan (source_at x.plan (n + i)))) k.from front_is.fitting)

  abbrev keyed_rows : List Cells
  keyed_rows = filter (has side.key piece.key) (stage_rows x.plan x.shard side k.from)

  of_table : Each (λ r. is_row (table_at x.plan side.table).columns r ≡ true) (sorted row_cmp keyed_rows)
  of_table =
      let row : Cells → Type 0 = λ r. is_row (table_at x.plan side.table).columns r ≡ true in
      each_sorted row keyed_rows (Each-filter row (has side.key piece.key) (stage_rows x.plan x.shard side k.from) (are_rows x.plan x.shard side piece.key k.from fit))

  -- what a call of `give` asks, and what it makes of the shard
  module _ (rows : List Cells) (d : Datum) (key_is : d ≡ piece.key) (are : rows ≡ piece.rows) where
    pub fed_keyed : Each (λ r. has (right_key x.rows.plan.right) d r ≡ true) rows
    fed_keyed =
        let each = each_sorted (λ r. has side.key piece.key r ≡ true) (filter (has side.key piece.key) (stage_rows x.plan x.shard side k.from)) (Each-filtered (has side.key piece.key) (stage_rows x.plan x.shard side k.from)) in
        let here = subst (λ rs. Each (λ r. has side.key piece.key r ≡ true) rs) (sym (are ∙ rows_are)) each in
        let named = subst (λ d. Each (λ r. has side.key d r ≡ true) rows) (sym key_is) here in
        subst (λ (q : Layout). Each (λ r. has (right_key q.right) d r ≡ true) rows) (sym whole.rows.plan) (subst (λ (o : Option SideLayout). Each (λ r. has (right_key o) d r ≡ true) rows) (sym room.1) named)

    pub fed_rows : AreOfRight x.rows.plan x.rows.plan.right rows
    fed_rows =
        let here = subst (λ rs. AreOfRight x.plan (Some side) rs) (sym (are ∙ rows_are)) of_table in
        subst (λ (q : Layout). AreOfRight q q.right rows) (sym whole.rows.plan) (subst (λ (o : Option SideLayout). AreOfRight x.plan o rows) (sym room.1) here)

    pub fed_order : IsAscending row_cmp rows
    fed_order = subst (IsAscending row_cmp) (sym (are ∙ rows_are)) (IsAscending-sorted row_cmp row_total keyed_rows)

    shares_at : (v : Datum) → d ≡ v → slice_get (right_shares x.plan x.shard side v fronts) i ≡ Some (sorted row_cmp (kept_rows x.rows.plan rows))
    shares_at v is =
        let own_share = kept_share x.plan x.shard side piece.key k.from fit in
        let kept : sorted row_cmp (kept_rows x.rows.plan rows) ≡ share_of x.plan x.shard side v k.from =
        ap (λ (q : Layout). sorted row_cmp (kept_rows q rows)) whole.rows.plan
        ∙ (ap (λ (o : Option SideLayout). sorted row_cmp (rows_kept x.plan o rows)) room.1
        ∙ (ap (λ rs. sorted row_cmp (filter (is_kept x.plan side) rs)) (are ∙ rows_are) ∙ (own_share ∙ ap (λ v. share_of x.plan x.shard side v k.from) (sym key_is ∙ is)))) in
        slice_get-map (share_of x.plan x.shard side v) fronts i ∙ (ap (option_map (share_of x.plan x.shard side v)) (drop_get n i (entries_of x.line) ∙ at_i) ∙ ap Some (sym kept))

    module _ (new : Held) (others : new ≡ record x.rows { right = new.right }) (sources_same : new.right.sources ≡ x.rows.right.sources) (keys : keys_in new.right ≡ option_map (give_at i d) (keys_in x.rows.right)) where
      pub fed_whole : ((v : Value) (parts : List (List Cells)) → (d ≡ datum_of v → slice_get parts i ≡ Some (sorted row_cmp (kept_rows x.rows.plan rows))) → IsTrueOf sum_of_bags parts (state_in x.rows.right (datum_of v)) → IsTrueOf sum_of_bags parts (state_in new.right (datum_of v)))
          → IsWhole (record x { rows = new })
      fed_whole truth =
          let held : HoldsRight x.plan x.shard (Some side) fronts x.rows.right = subst (λ o. HoldsRight x.plan x.shard o fronts x.rows.right) room.1 whole.rows.right in
          let after_it : HoldsRight x.plan x.shard (Some side) fronts new.right = (some_after x.rows.right new.right (give_at i d) keys held.0, sources_same ∙ held.1, λ v. truth v (right_shares x.plan x.shard side (datum_of v) fronts) (shares_at (datum_of v)) (held.2 v)) in
          with_right x new whole others (subst (λ o. HoldsRight x.plan x.shard o fronts new.right) (sym room.1) after_it)

      given_is : (o : Option Keys) → option_map (give_at i piece.key) o ≡ piece_given i piece.key o
      given_is None = refl
      given_is (Some keys) = refl

      taken : piece_taken (stage_of x) j piece ≡ keys_in new.right
      taken =
          let right : (is_left x.plan j || not (piece.tag == right_tag)) ≡ false = rw (apart, tag) refl in
          ap (λ b. cond b (keys_in x.rows.right) (piece_given i piece.key (keys_in x.rows.right))) right
          ∙ (sym (given_is (keys_in x.rows.right)) ∙ (ap (λ d. option_map (give_at i d) (keys_in x.rows.right)) (sym key_is) ∙ sym keys))

      pub put_fed : (d : Done) (out : OutboxView) → IsPut d out x → AreEdges x.plan out → IsPut (after d (quiet (record d.stage { right = piece_taken d.stage j piece }))) out (record x { rows = new })
      put_fed d out put edges =
          put_quiet d (quiet (record d.stage { right = piece_taken d.stage j piece })) out x (record x { rows = new }) put edges refl refl
          (ap (λ (s : Stage). quiet (record s { right = piece_taken s j piece })) (sym put.stage) ∙ ap (λ o. quiet (record (stage_of x) { right = o })) taken)

-- any other piece
pub put_unfed : (x : Shard) (j : ℕ) (piece : Piece) (d : Done) (out : OutboxView) → (not (is_left x.plan j) && (piece.tag == right_tag)) ≡ false → IsPut d out x → AreEdges x.plan out → IsPut (after d (quiet (record d.stage { right = piece_taken d.stage j piece }))) out x
put_unfed x j piece d out other put edges =
    put_quiet d (quiet (record d.stage { right = piece_taken d.stage j piece })) out x x put edges refl refl
    (ap (λ (s : Stage). quiet (record s { right = piece_taken s j piece })) (sym put.stage) ∙ ap (λ o. quiet (record (stage_of x) { right = o })) (step (is_left x.plan j) (piece.tag == right_tag) other))
  where
    step : (a b : Bool) → (not a && b) ≡ false → cond (a || not b) (keys_in x.rows.right) (piece_given (j - side_count x.plan x.plan.left) piece.key (keys_in x.rows.right)) ≡ keys_in x.rows.right
    step true b e = refl
    step false false e = refl
    step false true e = cc
