-- The rows that the sources have for a stage shard, as the front of one of them goes on.
use Rattle.std.proofs.Common.{◌≡◌, ℕ, zero, suc, ◌+◌, ◌-◌, ◌<◌, ◌≤◌, ◌==◌, Bool, true, false, cond, ◌&&◌, List, [], ◌∷◌, ◌++◌, filter, flat_map, length, take, drop, Option, Some, None, get_or, slice_get, slice_set, refl, ap, sym, ◌∙◌, subst, arith, append-nil, length-append}
use Rattle.std.specs.Prelude.{nat_lt}
use Rattle.std.specs.List.{list_all, range_with_len}
use Rattle.std.proofs.lemmas.Bool.Decides.{nat_tests}
use Rattle.std.proofs.lemmas.List.FromFn.{length-range_with_len}
use Rattle.row.specs.Cells.{Cells, row_cmp, has, has_shard}
use Rattle.row.specs.Bags.{Each, IsAlike}
use Rattle.row.specs.Changes.{Turns, IsCovered}
use Rattle.row.specs.declared.record.Record.{Record}
use Rattle.row.proofs.BagLemmas.{times-append}
use Rattle.row.proofs.RecordLaws.{Turns-filter}
use Rattle.plan.specs.Facts.{Facts, IfThere, IsSide}
use Rattle.plan.specs.Kinds.{is_row}
use Rattle.plan.specs.Layouts.{SideLayout, Layout, table_at}
use Rattle.plan.specs.Outputs.{pass}
use Rattle.plan.proofs.Both.{and_left, and_right, and_both}
use Rattle.model.specs.Logs.{Change, fits, rows_of}
use Rattle.model.specs.Places.{sources, source_at, side_bases, side_count, right_bases, base_at, table_of, layout_of}
use Rattle.model.specs.Queries.{Line, stage_rows, side_share, side_rows, left, right}
use Rattle.model.proofs.PlaceLaws.{base_table}
use Rattle.model.proofs.RowFits.{all_filter, rows_fit}
use Rattle.packet.specs.Readers.{is_left, side_in, side_of, right_side}
use Rattle.packet.specs.Truth.{IsFrontOf, IsLine, Pointwise, sent_rows}
use Rattle.protocol.proofs.Spots.{at_start, two_tables, unequal}
use Rattle.ops.specs.declared.side.Side.TheVariants.{Left, Right}
use Rattle.stage_sides.specs.Kept.{is_kept, kept_by, kept_at}
use Rattle.row.specs.Bags.{sorted}
use Rattle.row.specs.BagChanges.{with_records}
use Rattle.row.specs.CellOrder.{row_total, row_same}
use Rattle.row.specs.Cells.{Datum}
use Rattle.row.proofs.BagChanges.{times-with_records, IsAscending-with_records}
use Rattle.row.proofs.BagLemmas.{times-sorted, IsAscending-sorted, one_list}
use Rattle.right_rows.specs.Rights.{records_of}

-- ---- one front of a list of them
pub front_turns : (share : List Change → List Cells) (fs : List (List Change)) (i : ℕ) (from to : List Change) (records : List Record) → slice_get fs i ≡ Some from → Turns (share from) records (share to) → Turns (flat_map share fs) records (flat_map share (slice_set fs i to))
front_turns share [] i from to records at t = cc
front_turns share (f ∷ fs) zero from to records at t =
    let e : f ≡ from = cc in
    record { each = λ z. rw e (omega (arith, t.each z, times-append row_cmp z (share from) (flat_map share fs), times-append row_cmp z (share to) (flat_map share fs))) }
front_turns share (f ∷ fs) (suc i) from to records at t =
    let rest = front_turns share fs i from to records at t in
    record { each = λ z. omega (arith, rest.each z, times-append row_cmp z (share f) (flat_map share fs), times-append row_cmp z (share f) (flat_map share (slice_set fs i to))) }

pub alike_after : (xs ys olds news : List Cells) (records : List Record) → IsAlike row_cmp olds xs → Turns xs records ys → Turns olds records news → IsAlike row_cmp news ys
alike_after xs ys olds news records h t u = record { each = λ z. let a = h.each z in let b = t.each z in let c = u.each z in omega (arith, a, b, c) }

pub covered_by : (xs ys olds : List Cells) (records : List Record) → IsAlike row_cmp olds xs → Turns xs records ys → IsCovered olds records
covered_by xs ys olds records h t = record { enough = λ z. let a = h.each z in let b = t.each z in omega (arith, a, b) }

-- ---- the rows of a side
pub all_of : {X : Type 0} (p : X → Bool) (xs : List X) → Each (λ x. p x ≡ true) xs → list_all p xs ≡ true
all_of p [] h = refl
all_of p (x ∷ xs) h = and_both (p x) (list_all p xs) h.0 (all_of p xs h.1)

filter_and : (p q : Cells → Bool) (xs : List Cells) → list_all p xs ≡ true → filter (λ x. p x && q x) xs ≡ filter q xs
filter_and p q [] h = refl
filter_and p q (x ∷ xs) h = let first : p x ≡ true = and_left (p x) (list_all p xs) h in rw first (step (q x) (filter_and p q xs (and_right (p x) (list_all p xs) h)))
  where
    step : (b : Bool) → filter (λ x. p x && q x) xs ≡ filter q xs → cond b (x ∷ filter (λ x. p x && q x) xs) (filter (λ x. p x && q x) xs) ≡ cond b (x ∷ filter q xs) (filter q xs)
    step true e = ap (λ t. x ∷ t) e
    step false e = e

module _ (p : Layout) (s : ℕ) (side : SideLayout) where
  share_is : (front : List Change) → list_all (fits (table_at p side.table)) front ≡ true → filter (is_kept p side) (stage_rows p s side front) ≡ side_share p s side front
  share_is front h =
      filter_and (is_row (table_at p side.table).columns) (pass side.conditions) (stage_rows p s side front)
      (all_filter (is_row (table_at p side.table).columns) (has_shard side.key p.stages s) (rows_of (table_at p side.table).key front) (rows_fit (table_at p side.table) (table_at p side.table).key front h))

  share_turns : (from to : List Change) (records : List Record) → list_all (fits (table_at p side.table)) from ≡ true → list_all (fits (table_at p side.table)) to ≡ true → Turns (stage_rows p s side from) records (stage_rows p s side to)
      → Turns (side_share p s side from) (kept_by p side records) (side_share p s side to)
  share_turns from to records h k t = rw (← share_is from h, ← share_is to k) (Turns-filter (is_kept p side) (stage_rows p s side from) records (stage_rows p s side to) t)

-- ---- places
pub get_first : (a n j : ℕ) (ys : List ℕ) → j < n → get_or (range_with_len a n ++ ys) j 0 ≡ a + j
get_first a zero j ys lt = absurd (omega (arith, lt))
get_first a (suc n) zero ys lt = omega arith
get_first a (suc n) (suc j) ys lt = let e : a + 1 + j ≡ a + suc j = omega arith in get_first (a + 1) n j ys (omega (arith, lt)) ∙ e

get_second : (a n i : ℕ) (ys : List ℕ) → get_or (range_with_len a n ++ ys) (n + i) 0 ≡ get_or ys i 0
get_second a zero i ys = let e : 0 + i ≡ i = omega arith in ap (λ k. get_or ys k 0) e
get_second a (suc n) i ys = let e : suc n + i ≡ suc (n + i) = omega arith in ap (λ k. get_or (a ∷ range_with_len (a + 1) n ++ ys) k 0) e ∙ get_second (a + 1) n i ys

take_set : {X : Type 0} (n j : ℕ) (xs : List X) (x : X) → take n (slice_set xs j x) ≡ slice_set (take n xs) j x
take_set zero j xs x = refl
take_set (suc n) j [] x = refl
take_set (suc n) zero (y ∷ xs) x = refl
take_set (suc n) (suc j) (y ∷ xs) x = ap (λ t. y ∷ t) (take_set n j xs x)

pub take_get : {X : Type 0} (n j : ℕ) (xs : List X) → j < n → slice_get (take n xs) j ≡ slice_get xs j
take_get zero j xs lt = absurd (omega (arith, lt))
take_get (suc n) j [] lt = refl
take_get (suc n) zero (y ∷ xs) lt = refl
take_get (suc n) (suc j) (y ∷ xs) lt = take_get n j xs (omega (arith, lt))

drop_set : {X : Type 0} (n i : ℕ) (xs : List X) (x : X) → drop n (slice_set xs (n + i) x) ≡ slice_set (drop n xs) i x
drop_set zero i xs x = let e : 0 + i ≡ i = omega arith in ap (λ k. slice_set xs k x) e
drop_set (suc n) i [] x = refl
drop_set (suc n) i (y ∷ xs) x = let e : suc n + i ≡ suc (n + i) = omega arith in ap (λ k. drop (suc n) (slice_set (y ∷ xs) k x)) e ∙ drop_set n i xs x

pub drop_get : {X : Type 0} (n i : ℕ) (xs : List X) → slice_get (drop n xs) i ≡ slice_get xs (n + i)
drop_get zero i xs = let e : 0 + i ≡ i = omega arith in ap (slice_get xs) (sym e)
drop_get (suc n) i [] = refl
drop_get (suc n) i (y ∷ xs) = let e : suc n + i ≡ suc (n + i) = omega arith in drop_get n i xs ∙ ap (slice_get (y ∷ xs)) (sym e)

drop_still : {X : Type 0} (n j : ℕ) (xs : List X) (x : X) → j < n → drop n (slice_set xs j x) ≡ drop n xs
drop_still zero j xs x lt = absurd (omega (arith, lt))
drop_still (suc n) j [] x lt = refl
drop_still (suc n) zero (y ∷ xs) x lt = refl
drop_still (suc n) (suc j) (y ∷ xs) x lt = drop_still n j xs x (omega (arith, lt))

take_still : {X : Type 0} (n i : ℕ) (xs : List X) (x : X) → take n (slice_set xs (n + i) x) ≡ take n xs
take_still zero i xs x = refl
take_still (suc n) i [] x = refl
take_still (suc n) i (y ∷ xs) x = let e : suc n + i ≡ suc (n + i) = omega arith in ap (λ k. take (suc n) (slice_set (y ∷ xs) k x)) e ∙ ap (λ t. y ∷ t) (take_still n i xs x)

pub front_at : (p : Layout) (bs : List ℕ) (line : Line) (j : ℕ) (from : List Change) → Pointwise (IsFrontOf p) bs line → slice_get line j ≡ Some from → IsFrontOf p (get_or bs j 0) from
front_at p [] [] j from h at = cc
front_at p [] (f ∷ line) j from h at = absurd h
front_at p (b ∷ bs) [] j from h at = absurd h
front_at p (b ∷ bs) (f ∷ line) zero from h at = let e : f ≡ from = cc in subst (IsFrontOf p b) e h.0
front_at p (b ∷ bs) (f ∷ line) (suc j) from h at = front_at p bs line j from h.1 at

same_self : (n : ℕ) → (n == n) ≡ true
same_self n = grind (arith, nat_tests)

-- ---- a left source, and a right one
module _ (p : Layout) (s : ℕ) (line : Line) (from to : List Change) (changes : List Record) (facts : Facts p) (is : IsLine p line) where
  -- the side of a source, and what that says of a packet
  of_side : (side : SideLayout) (b : ℕ) → table_of p b ≡ side.table → side_of p b ≡ Some side → IsFrontOf p b from → IsFrontOf p b to → Turns (sent_rows p b s from) changes (sent_rows p b s to) → Turns (side_share p s side from) (kept_by p side changes) (side_share p s side to)
  of_side side b table of f g t =
      let e : layout_of p b ≡ table_at p side.table = ap (table_at p) table in
      let before = rw e at (all_of (fits (layout_of p b)) from f.fitting) in
      let after = rw e at (all_of (fits (layout_of p b)) to g.fitting) in
      share_turns p s side from to changes before after (rw of at t)

  module _ (j : ℕ) (lt : j < side_count p p.left) (at : slice_get line j ≡ Some from) (goes : IsFrontOf p (source_at p j) to) (turns : Turns (sent_rows p (source_at p j) s from) changes (sent_rows p (source_at p j) s to)) where
    left_place : source_at p j ≡ base_at p p.left.table j
    left_place = get_first (base_at p p.left.table 0) (side_count p p.left) j (right_bases p p.right) lt ∙ at_start p p.left.table j

    left_table : table_of p (source_at p j) ≡ p.left.table
    left_table = ap (table_of p) left_place ∙ base_table p p.left.table j facts.left.table lt

    left_side : side_of p (source_at p j) ≡ Some p.left
    left_side = ap (side_in p) left_table ∙ ap (λ b. cond b (Some p.left) (right_side p.left.table p.right)) (same_self p.left.table)

    left_turns : Turns (left p s line) (kept_by p p.left changes) (left p s (slice_set line j to))
    left_turns =
        let n = side_count p p.left in
        subst (λ fs. Turns (left p s line) (kept_by p p.left changes) (flat_map (side_share p s p.left) fs)) (sym (take_set n j line to))
        (front_turns (side_share p s p.left) (take n line) j from to (kept_by p p.left changes) (take_get n j line lt ∙ at)
        (of_side p.left (source_at p j) left_table left_side (front_at p (sources p) line j from is at) goes turns))

  module _ (side : SideLayout) (there : p.right ≡ Some side) (i : ℕ) (lt : i < side_count p side) (at : slice_get line (side_count p p.left + i) ≡ Some from) (goes : IsFrontOf p (source_at p (side_count p p.left + i)) to)
      (turns : Turns (sent_rows p (source_at p (side_count p p.left + i)) s from) changes (sent_rows p (source_at p (side_count p p.left + i)) s to)) where
    right_place : source_at p (side_count p p.left + i) ≡ base_at p side.table i
    right_place =
        get_second (base_at p p.left.table 0) (side_count p p.left) i (right_bases p p.right)
        ∙ (ap (λ o. get_or (right_bases p o) i 0) there ∙ (ap (λ l. get_or l i 0) (sym (append-nil (side_bases p side))) ∙ (get_first (base_at p side.table 0) (side_count p side) i [] lt ∙ at_start p side.table i)))

    right_is_side : IsSide p side
    right_is_side = subst (λ (o : Option SideLayout). IfThere o (IsSide p)) there facts.right

    pub right_table : table_of p (source_at p (side_count p p.left + i)) ≡ side.table
    right_table = ap (table_of p) right_place ∙ base_table p side.table i right_is_side.table lt

    pub right_is : side_of p (source_at p (side_count p p.left + i)) ≡ Some side
    right_is =
        ap (side_in p) right_table
        ∙ (ap (λ b. cond b (Some p.left) (right_side side.table p.right)) (unequal side.table p.left.table (λ e. two_tables p side facts.plan there (sym e)))
        ∙ (ap (right_side side.table) there ∙ ap (λ b. cond b (Some side) None) (same_self side.table)))

    right_turns : Turns (right p s line) (kept_at p Right changes) (right p s (slice_set line (side_count p p.left + i) to))
    right_turns =
        let n = side_count p p.left in
        let own : Turns (side_rows p s side (drop n line)) (kept_by p side changes) (side_rows p s side (slice_set (drop n line) i to)) =
        front_turns (side_share p s side) (drop n line) i from to (kept_by p side changes) (drop_get n i line ∙ at)
        (of_side side (source_at p (n + i)) right_table right_is (front_at p (sources p) line (n + i) from is at) goes turns) in
        rw (there, drop_set n i line to) own

    right_own : Turns (side_share p s side from) (kept_at p Right changes) (side_share p s side to)
    right_own =
        let n = side_count p p.left in
        rw there
        (of_side side (source_at p (n + i)) right_table right_is (front_at p (sources p) line (n + i) from is at) goes turns)

    left_still : left p s (slice_set line (side_count p p.left + i) to) ≡ left p s line
    left_still = ap (side_rows p s p.left) (take_still (side_count p p.left) i line to)

-- which of the two a source is
pub right_room : (p : Layout) (right : Option SideLayout) (j : ℕ) → nat_lt j (side_count p p.left) ≡ false → j < length (side_bases p p.left ++ right_bases p right) → (side : SideLayout) × (right ≡ Some side) × (j - side_count p p.left < side_count p side)
right_room p None j apart lt =
    let n : side_count p p.left ≤ j = grind (arith, nat_tests) in
    absurd (omega (arith, n, lt, length-append (side_bases p p.left) [], length-range_with_len (base_at p p.left.table 0) (side_count p p.left)))
right_room p (Some side) j apart lt =
    let n : side_count p p.left ≤ j = grind (arith, nat_tests) in
    (side, refl, omega (arith, n, lt, length-append (side_bases p p.left) (side_bases p side), length-range_with_len (base_at p p.left.table 0) (side_count p p.left), length-range_with_len (base_at p side.table 0) (side_count p side)))

-- ---- by the side of the source
-- a left source: its records turn the left rows, and the right fronts stay
pub record IsLeftStep (p : Layout) (s : ℕ) (line after : Line) (changes : List Record) : Type 0 where
  pub turns : Turns (left p s line) (kept_at p Left changes) (left p s after)
  pub still : drop (side_count p p.left) after ≡ drop (side_count p p.left) line

-- right source i: its records turn the right rows, and its own, and the left rows stay
pub record IsRightStep (p : Layout) (s : ℕ) (line after : Line) (changes : List Record) (side : SideLayout) (i : ℕ) (from to : List Change) : Type 0 where
  pub there : p.right ≡ Some side
  pub turns : Turns (right p s line) (kept_at p Right changes) (right p s after)
  pub still : left p s after ≡ left p s line
  pub at : slice_get (drop (side_count p p.left) line) i ≡ Some from
  pub moved : drop (side_count p p.left) after ≡ slice_set (drop (side_count p p.left) line) i to
  pub own : Turns (side_share p s side from) (kept_at p Right changes) (side_share p s side to)

module _ (p : Layout) (s : ℕ) (line : Line) (j : ℕ) (from to : List Change) (changes : List Record) (facts : Facts p) (is : IsLine p line) (goes : IsFrontOf p (source_at p j) to) (lt : j < length (sources p)) (at : slice_get line j ≡ Some from)
    (turns : Turns (sent_rows p (source_at p j) s from) changes (sent_rows p (source_at p j) s to)) where
  pub left_step : is_left p j ≡ true → IsLeftStep p s line (slice_set line j to) changes
  left_step e =
      let small : j < side_count p p.left = grind (arith, nat_tests) in
      record {
        turns = left_turns p s line from to changes facts is j small at goes turns;
        still = drop_still (side_count p p.left) j line to small;
      }

  pub right_step : is_left p j ≡ false → (side : SideLayout) × IsRightStep p s line (slice_set line j to) changes side (j - side_count p p.left) from to
  right_step e =
      let n = side_count p p.left in
      let low : n ≤ j = grind (arith, nat_tests) in
      let r = right_room p p.right j e lt in
      let same : n + (j - n) ≡ j = omega (arith, low) in
      let at' = subst (λ k. slice_get line k ≡ Some from) (sym same) at in
      let goes' = subst (λ k. IsFrontOf p (source_at p k) to) (sym same) goes in
      let turns' = subst (λ k. Turns (sent_rows p (source_at p k) s from) changes (sent_rows p (source_at p k) s to)) (sym same) turns in (
        r.0,
        record {
          there = r.1;
          turns = subst (λ k. Turns (right p s line) (kept_at p Right changes) (right p s (slice_set line k to))) same (right_turns p s line from to changes facts is r.0 r.1 (j - n) r.2 at' goes' turns');
          still = ap (λ k. left p s (slice_set line k to)) (sym same) ∙ left_still p s line from to changes facts is r.0 r.1 (j - n) r.2 at' goes' turns';
          at = drop_get n (j - n) line ∙ at';
          moved = ap (λ k. drop n (slice_set line k to)) (sym same) ∙ drop_set n (j - n) line to;
          own = right_own p s line from to changes facts is r.0 r.1 (j - n) r.2 at' goes' turns';
        },
      )

-- ---- what a source has of a right key
module _ (p : Layout) (s : ℕ) (side : SideLayout) (x : Datum) where
  -- its rows of the key, in order
  abbrev pub share_of : List Change → List Cells
  share_of front = sorted row_cmp (filter (has side.key x) (side_share p s side front))

  module _ (from to : List Change) (records : List Record) (turns : Turns (side_share p s side from) records (side_share p s side to)) where
    pub share_covered : IsCovered (share_of from) (records_of side.key x records)
    share_covered =
        let t = Turns-filter (has side.key x) (side_share p s side from) records (side_share p s side to) turns in
        record { enough = λ z. omega (arith, t.each z, times-sorted row_cmp z (filter (has side.key x) (side_share p s side from))) }

    pub share_changed : share_of to ≡ with_records (share_of from) (records_of side.key x records)
    share_changed =
        let t = Turns-filter (has side.key x) (side_share p s side from) records (side_share p s side to) turns in
        one_list row_cmp row_total row_same (share_of to) (with_records (share_of from) (records_of side.key x records)) (IsAscending-sorted row_cmp row_total (filter (has side.key x) (side_share p s side to)))
        (IsAscending-with_records (share_of from) (records_of side.key x records) (IsAscending-sorted row_cmp row_total (filter (has side.key x) (side_share p s side from))))
        (λ z. omega (
          arith,
          t.each z,
          times-sorted row_cmp z (filter (has side.key x) (side_share p s side from)),
          times-sorted row_cmp z (filter (has side.key x) (side_share p s side to)),
          times-with_records z (share_of from) (records_of side.key x records) share_covered,
        ))
