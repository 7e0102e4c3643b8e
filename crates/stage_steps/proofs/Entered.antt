-- What records of one source change of the output at a key of a view that is not evicted.
use Rattle.std.proofs.Common.{◌≡◌, ℕ, ◌<◌, Bool, true, false, cond, ◌&&◌, List, [], ◌∷◌, filter, length, drop, Option, Some, None, refl, ap, sym, ◌∙◌, subst, arith, true≢false}
use Rattle.std.specs.Global.{Global}
use Rattle.row.specs.Bags.{Each, IsAlike, IsAscending, sorted}
use Rattle.row.specs.Cells.{Cells, Datum, cell_at, datum_of, has, row_cmp}
use Rattle.row.specs.Changes.{Turns}
use Rattle.row.specs.declared.record.Record.{Record}
use Rattle.row.specs.declared.value.Value.{Value}
use Rattle.row.proofs.BagLemmas.{Each-at, Each-weaker, not_true}
use Rattle.row.proofs.RecordLaws.{Turns-filter}
use Rattle.row.proofs.Alike.{filter_alike}
use Rattle.row.specs.CellOrder.{row_total, row_same}
use Rattle.plan.specs.Facts.{Facts, IfThere, IsSide, IsView}
use Rattle.plan.specs.Kinds.{is_row}
use Rattle.plan.specs.Layouts.{Layout, SideLayout, no_view, table_at, view_at}
use Rattle.plan.specs.Outputs.{key_place, out, output, pass}
use Rattle.plan.specs.declared.kinds.Aggregate.{Aggregate}
use Rattle.plan.proofs.Both.{and_left}
use Rattle.plan.proofs.OutputLaws.{output_alike}
use Rattle.model.specs.Logs.{Change}
use Rattle.model.specs.Places.{side_count}
use Rattle.model.specs.Queries.{Line, left, part, right_rows, side_rows}
use Rattle.ops.specs.SideRows.{Rows, is_here, is_of}
use Rattle.ops.specs.Stages.{right_key}
use Rattle.ops.specs.declared.side.Side.TheVariants.{Left, Right}
use Rattle.packet.specs.Truth.{IsLine}
use Rattle.right_rows.specs.Rights.{keys_in}
use Rattle.stage_sides.specs.Held.{Held, IsOtherSide, output_over, untold_lefts}
use Rattle.stage_sides.specs.Kept.{is_kept, kept_by}
use Rattle.stage_sides.specs.Sides.{is_known}
use Rattle.stage_sides.proofs.Exact.{AreHere, left_exact, right_exact, unknown, IsApartFrom}
use Rattle.stage_steps.specs.Shards.{HoldsRight, HoldsRows}
use Rattle.stage_steps.specs.Sides.{passing_at, passing_of}
use Rattle.stage_steps.specs.Told.{key_column}
use Rattle.stage_steps.proofs.Fronts.{IsLeftStep, IsRightStep}
use Rattle.stage_steps.proofs.Here.{are_here, can_name, is_named_here, output_named, row_can, rows_named}
use Rattle.stage_steps.proofs.LeftRows.{left_are_rows, rows_wide, sorted_are_rows}
use Rattle.stage_steps.proofs.Turned.{keys_are}
use Rattle.stage_steps.proofs.Untold.{kept_same, left_spared, right_spared}

turns_alike : (xs ys vs ws : List Cells) (records : List Record) → IsAlike row_cmp xs ys → IsAlike row_cmp vs ws → Turns xs records vs → Turns ys records ws
turns_alike xs ys vs ws records h k t = record { each = λ z. let a = h.each z in let b = k.each z in let c = t.each z in omega (arith, a, b, c) }

pub like : (xs : List Cells) → IsAlike row_cmp xs xs
like xs = record { each = λ z. refl }

alike_filter : (q : Cells → Bool) (xs ys : List Cells) → IsAlike row_cmp xs ys → IsAlike row_cmp (filter q xs) (filter q ys)
alike_filter q xs ys h = filter_alike row_cmp row_total row_same q xs ys h

-- ---- records that a side takes
each_filter : (P : Record → Type 0) (q : Record → Bool) (rs : List Record) → Each P rs → Each (λ r. P r × (q r ≡ true)) (filter q rs)
each_filter P q [] h = tt
each_filter P q (r ∷ rs) h = step (q r) refl (each_filter P q rs h.1)
  where
    step : (b : Bool) → q r ≡ b → Each (λ r. P r × (q r ≡ true)) (filter q rs) → Each (λ r. P r × (q r ≡ true)) (cond b (r ∷ filter q rs) (filter q rs))
    step true e k = ((h.0, e), k)
    step false e k = k

-- what holds of each record that passes holds of each that the side takes, and that is of a row of its table
taken_of : (P : Record → Type 0) (p : Layout) (side : SideLayout) (rs : List Record) → kept_by p side (passing_of side rs) ≡ kept_by p side rs → Each P (passing_of side rs) → Each (λ (r : Record). P r × (is_kept p side r.row ≡ true)) (kept_by p side rs)
taken_of P p side rs same h = subst (Each (λ (r : Record). P r × (is_kept p side r.row ≡ true))) same (each_filter P (λ (r : Record). is_kept p side r.row) (passing_of side rs) h)

named_here : (keys : Option (List Datum)) (x : Datum) → can_name x ≡ true → is_named_here keys x ≡ false → is_of keys x ≡ false
named_here keys x can h = by (is_of keys x) refl
  where
    by : (b : Bool) → is_of keys x ≡ b → is_of keys x ≡ false
    by false e = e
    by true e = absurd (true≢false (sym (ap (λ b. b && can_name x) e ∙ can) ∙ h))

-- ---- the output of what is held
module _ (p : Layout) (s : ℕ) (i : ℕ) (k : Datum) where
  -- the stage shard's part of the key, by the right side
  abbrev part_by : Option SideLayout → Line → List Cells
  part_by o line = filter (has (key_place o p.aggregate (view_at p i).key) k) (output p.left o p.aggregate (left p s line) (right_rows p s o (drop (side_count p p.left) line)))

  abbrev TurnsBy : Option SideLayout → Line → Line → List Record → Type 0
  TurnsBy o line after records = Turns (part_by o line) (filter (λ (r : Record). has (key_place o p.aggregate (view_at p i).key) k r.row) records) (part_by o after)

over_is : (p : Layout) (o : Option SideLayout) (h : Held) → h.plan ≡ p → p.right ≡ o → output_over h ≡ output p.left o p.aggregate h.lefts h.right.rows
over_is p o h plan there = ap (λ (q : Layout). out q h.lefts h.right.rows) plan ∙ ap (λ o. output p.left o p.aggregate h.lefts h.right.rows) there

pub alone : (left : SideLayout) (a : Option Aggregate) (ls rs rs' : List Cells) → output left None a ls rs ≡ output left None a ls rs'
alone left None ls rs rs' = refl
alone left (Some a) ls rs rs' = refl

module _ (alloc : Global) (p : Layout) (s : ℕ) (line after : Line) (changes records : List Record) (facts : Facts p) (is : IsLine p line) (still : IsLine p after) (old new : Held) (holds : HoldsRows p s line old) (then : HoldsRows p s after new) (difference : Turns (output_over old) records (output_over new))
    (i : ℕ) (view : i < length p.views) (k : Datum) where
  abbrev pub own_key : ℕ
  own_key = (view_at p i).key

  small : own_key < length (table_at p p.left.table).columns
  small = let v : IsView p (view_at p i) = Each-at (IsView p) p.views facts.views i no_view view in v.key

  turned : (o : Option SideLayout) → p.right ≡ o → Turns (output p.left o p.aggregate old.lefts old.right.rows) records (output p.left o p.aggregate new.lefts new.right.rows)
  turned o there = subst (λ xs. Turns xs records (output p.left o p.aggregate new.lefts new.right.rows)) (over_is p o old holds.plan there) (subst (λ ys. Turns (output_over old) records ys) (over_is p o new then.plan there) difference)

  -- with no right side
  pub turns_none : p.right ≡ None → Turns (part p s line i k) (filter (λ (r : Record). has (key_column p i) k r.row) records) (part p s after i k)
  turns_none there =
      let t = turned None there in
      let before : IsAlike row_cmp (output p.left None p.aggregate old.lefts old.right.rows) (output p.left None p.aggregate (left p s line) []) =
      subst (λ ys. IsAlike row_cmp (output p.left None p.aggregate old.lefts old.right.rows) ys) (alone p.left p.aggregate (left p s line) old.right.rows [])
      (output_alike p.left None p.aggregate old.lefts (left p s line) old.right.rows old.right.rows holds.lefts (like old.right.rows)) in
      let later : IsAlike row_cmp (output p.left None p.aggregate new.lefts new.right.rows) (output p.left None p.aggregate (left p s after) []) =
      subst (λ ys. IsAlike row_cmp (output p.left None p.aggregate new.lefts new.right.rows) ys) (alone p.left p.aggregate (left p s after) new.right.rows [])
      (output_alike p.left None p.aggregate new.lefts (left p s after) new.right.rows new.right.rows then.lefts (like new.right.rows)) in
      let u = turns_alike (output p.left None p.aggregate old.lefts old.right.rows) (output p.left None p.aggregate (left p s line) []) (output p.left None p.aggregate new.lefts new.right.rows) (output p.left None p.aggregate (left p s after) []) records before later t in
      subst (λ o. TurnsBy p s i k o line after records) (sym there)
      (Turns-filter (has (key_place None p.aggregate own_key) k) (output p.left None p.aggregate (left p s line) []) records (output p.left None p.aggregate (left p s after) []) u)

  module _ (column : old.right.column ≡ right_key old.plan.right) (known : (k : Datum) → is_here old.right k ≡ is_known k (keys_in old.right)) (apart : (k : Value) → is_here old.right (datum_of k) ≡ false → filter (has old.right.column (datum_of k)) old.right.rows ≡ []) where
    module _ (side : SideLayout) (there : p.right ≡ Some side) where
      is_side : IsSide p side
      is_side = subst (λ (o : Option SideLayout). IfThere o (IsSide p)) there facts.right

      column_is : old.right.column ≡ side.key
      column_is = column ∙ (ap (λ (q : Layout). right_key q.right) holds.plan ∙ ap right_key there)

      own_right : HoldsRight p s (Some side) (drop (side_count p p.left) line) old.right
      own_right = subst (λ o. HoldsRight p s o (drop (side_count p p.left) line) old.right) there holds.right

      abbrev here : List Cells
      here = rows_named old.right.keys side.key old.right.rows

      here_is : AreHere side (is_named_here old.right.keys) here (side_rows p s side (drop (side_count p p.left) line))
      here_is = are_here old.right own_right.0 known alloc p s side (drop (side_count p p.left) line) column_is own_right.2

      apart_is : (k : Value) → is_of old.right.keys (datum_of k) ≡ false → filter (has side.key (datum_of k)) old.right.rows ≡ []
      apart_is k h = subst (λ c. filter (has c (datum_of k)) old.right.rows ≡ []) column_is (apart k h)

      cans : (ls : List Cells) → Each (λ l. is_row (table_at p p.left.table).columns l ≡ true) ls → Each (λ l. can_name (cell_at l p.left.key) ≡ true) ls
      cans ls h = Each-weaker (λ l. is_row (table_at p p.left.table).columns l ≡ true) (λ l. can_name (cell_at l p.left.key) ≡ true) (λ l e. row_can (table_at p p.left.table).columns l p.left.key e facts.left.key) ls h

      -- records of the left side
      module _ (step : IsLeftStep p s line after changes) (other : IsOtherSide Left old new) (spared : Each (λ l. has own_key k l ≡ false) (untold_lefts Left old (passing_at p Left changes))) where
        left_untold : Each (λ (r : Record). unknown p.left side p.aggregate (is_named_here old.right.keys) r.row ≡ true → has own_key k r.row ≡ false) (kept_by p p.left changes)
        left_untold =
            Each-weaker _ _ (λ (r : Record) h. λ u. h.0 (ap (λ (q : Layout). is_here old.right (cell_at r.row q.left.key)) holds.plan
            ∙ named_here old.right.keys (cell_at r.row p.left.key) (row_can (table_at p p.left.table).columns r.row p.left.key (and_left (is_row (table_at p p.left.table).columns r.row) (pass p.left.conditions r.row) h.1) facts.left.key)
            (not_true (is_named_here old.right.keys (cell_at r.row p.left.key)) u)))
            (kept_by p p.left changes)
            (taken_of (λ (r : Record). is_here old.right (cell_at r.row old.plan.left.key) ≡ false → has own_key k r.row ≡ false) p p.left changes (kept_same p Left changes) (left_spared own_key k old (passing_of p.left changes) spared))

        pub left_turns : Turns (part p s line i k) (filter (λ (r : Record). has (key_column p i) k r.row) records) (part p s after i k)
        left_turns =
            let a = p.aggregate in
            let ls = left p s line in
            let ms = left p s after in
            let rs = old.right.rows in
            let row = left_are_rows p s line facts is in
            let row' = left_are_rows p s after facts still in
            let t = subst (λ (i : Rows). Turns (output p.left (Some side) a old.lefts rs) records (output p.left (Some side) a new.lefts i.rows)) other.1 (turned (Some side) there) in
            let u = turns_alike (output p.left (Some side) a old.lefts rs) (output p.left (Some side) a ls rs) (output p.left (Some side) a new.lefts rs) (output p.left (Some side) a ms rs) records
            (output_alike p.left (Some side) a old.lefts ls rs rs holds.lefts (like rs)) (output_alike p.left (Some side) a new.lefts ms rs rs then.lefts (like rs)) t in
            let v : Turns (output p.left (Some side) a ls here) records (output p.left (Some side) a ms here) =
            subst (λ xs. Turns xs records (output p.left (Some side) a ms here)) (output_named alloc p.left side old.right.keys rs apart_is a ls (cans ls row))
            (subst (λ ys. Turns (output p.left (Some side) a ls rs) records ys) (output_named alloc p.left side old.right.keys rs apart_is a ms (cans ms row')) u) in
            let w = left_exact p.left side a (is_named_here old.right.keys) own_key k ls ms here (side_rows p s side (drop (side_count p p.left) line)) (kept_by p p.left changes) records (rows_wide p own_key ls small row) (rows_wide p own_key ms small row') here_is step.turns v left_untold in
            subst (λ o. TurnsBy p s i k o line after records) (sym there)
            (subst (λ (fs : Line). Turns (part_by p s i k (Some side) line) (filter (λ (r : Record). has own_key k r.row) records) (filter (has own_key k) (output p.left (Some side) a ms (side_rows p s side fs)))) (sym step.still) w)

      -- records of the right side
      module _ (up : IsAscending row_cmp old.lefts) (lefts_are : old.lefts ≡ sorted row_cmp (left p s line)) (j : ℕ) (from to : List Change) (step : IsRightStep p s line after changes side j from to) (other : IsOtherSide Right old new) (keys : keys_in new.right ≡ keys_in old.right)
          (column' : new.right.column ≡ right_key new.plan.right) (known' : (k : Datum) → is_here new.right k ≡ is_known k (keys_in new.right)) (apart' : (k : Value) → is_here new.right (datum_of k) ≡ false → filter (has new.right.column (datum_of k)) new.right.rows ≡ [])
          (spared : Each (λ l. has own_key k l ≡ false) (untold_lefts Right old (passing_of side changes))) where
        new_column : new.right.column ≡ side.key
        new_column = column' ∙ (ap (λ (q : Layout). right_key q.right) then.plan ∙ ap right_key there)

        new_right : HoldsRight p s (Some side) (drop (side_count p p.left) after) new.right
        new_right = subst (λ o. HoldsRight p s o (drop (side_count p p.left) after) new.right) there then.right

        abbrev here' : List Cells
        here' = rows_named old.right.keys side.key new.right.rows

        keys_same : new.right.keys ≡ old.right.keys
        keys_same = keys_are old.right new.right keys

        new_here : AreHere side (is_named_here old.right.keys) here' (side_rows p s side (drop (side_count p p.left) after))
        new_here =
            subst (λ ks. AreHere side (is_named_here ks) (rows_named ks side.key new.right.rows) (side_rows p s side (drop (side_count p p.left) after))) keys_same
            (are_here new.right new_right.0 known' alloc p s side (drop (side_count p p.left) after) new_column new_right.2)

        new_apart : (k : Value) → is_of old.right.keys (datum_of k) ≡ false → filter (has side.key (datum_of k)) new.right.rows ≡ []
        new_apart k h = subst (λ c. filter (has c (datum_of k)) new.right.rows ≡ []) new_column (apart' k (ap (λ ks. is_of ks (datum_of k)) keys_same ∙ h))

        right_untold : Each (λ (r : Record). Each (λ l. IsApartFrom p.left side p.aggregate (is_named_here old.right.keys) own_key k l r) old.lefts) (kept_by p side changes)
        right_untold =
            Each-weaker _ _ (λ (r : Record) h. each r old.lefts h.1 h.0)
            (kept_by p side changes)
            (taken_of (λ (r : Record). is_here old.right (cell_at r.row old.right.column) ≡ false → Each (λ l. has old.plan.left.key (cell_at r.row old.right.column) l ≡ true → has own_key k l ≡ false) old.lefts) p side changes kept_is (right_spared own_key k old (passing_of side changes) spared))
          where
            kept_is : kept_by p side (passing_of side changes) ≡ kept_by p side changes
            kept_is = let e = kept_same p Right changes in rw there at e

            each_of : (ls : List Cells) (x : Datum) → Each (λ l. has old.plan.left.key x l ≡ true → has own_key k l ≡ false) ls → is_named_here old.right.keys x ≡ false → Each (λ l. is_named_here old.right.keys x ≡ false → has p.left.key x l ≡ true → has own_key k l ≡ false) ls
            each_of [] x h n = tt
            each_of (l ∷ ls) x h n = (λ m e. h.0 (ap (λ (q : Layout). has q.left.key x l) holds.plan ∙ e), each_of ls x h.1 n)

            none_of : (ls : List Cells) (x : Datum) → is_named_here old.right.keys x ≡ true → Each (λ l. is_named_here old.right.keys x ≡ false → has p.left.key x l ≡ true → has own_key k l ≡ false) ls
            none_of [] x h = tt
            none_of (l ∷ ls) x h = (λ m e. absurd (true≢false (sym h ∙ m)), none_of ls x h)

            each : (r : Record) (ls : List Cells) → is_kept p side r.row ≡ true → (is_here old.right (cell_at r.row old.right.column) ≡ false → Each (λ l. has old.plan.left.key (cell_at r.row old.right.column) l ≡ true → has own_key k l ≡ false) ls)
                → Each (λ l. IsApartFrom p.left side p.aggregate (is_named_here old.right.keys) own_key k l r) ls
            each r ls kept h = by (is_named_here old.right.keys (cell_at r.row side.key)) refl
              where
                x : Datum
                x = cell_at r.row side.key

                can : can_name (cell_at r.row side.key) ≡ true
                can = row_can (table_at p side.table).columns r.row side.key (and_left (is_row (table_at p side.table).columns r.row) (pass side.conditions r.row) kept) is_side.key

                h' : is_here old.right (cell_at r.row side.key) ≡ false → Each (λ l. has old.plan.left.key (cell_at r.row side.key) l ≡ true → has own_key k l ≡ false) ls
                h' = subst (λ c. is_here old.right (cell_at r.row c) ≡ false → Each (λ l. has old.plan.left.key (cell_at r.row c) l ≡ true → has own_key k l ≡ false) ls) column_is h

                by : (b : Bool) → is_named_here old.right.keys (cell_at r.row side.key) ≡ b → Each (λ l. IsApartFrom p.left side p.aggregate (is_named_here old.right.keys) own_key k l r) ls
                by true e = none_of ls (cell_at r.row side.key) e
                by false e = each_of ls (cell_at r.row side.key) (h' (named_here old.right.keys (cell_at r.row side.key) can e)) e

        pub right_turns : Turns (part p s line i k) (filter (λ (r : Record). has (key_column p i) k r.row) records) (part p s after i k)
        right_turns =
            let a = p.aggregate in
            let ls = old.lefts in
            let row = sorted_are_rows p s line ls facts is lefts_are in
            let all = side_rows p s side (drop (side_count p p.left) line) in
            let all' = side_rows p s side (drop (side_count p p.left) after) in
            let t = subst (λ (ms : List Cells). Turns (output p.left (Some side) a ls old.right.rows) records (output p.left (Some side) a ms new.right.rows)) (ap (λ (h : Held). h.lefts) other) (turned (Some side) there) in
            let v : Turns (output p.left (Some side) a ls here) records (output p.left (Some side) a ls here') =
            subst (λ xs. Turns xs records (output p.left (Some side) a ls here')) (output_named alloc p.left side old.right.keys old.right.rows apart_is a ls (cans ls row))
            (subst (λ ys. Turns (output p.left (Some side) a ls old.right.rows) records ys) (output_named alloc p.left side old.right.keys new.right.rows new_apart a ls (cans ls row)) t) in
            let turns : Turns all (kept_by p side changes) all' = let e = step.turns in rw there at e in
            let w = right_exact p.left side a (is_named_here old.right.keys) own_key k ls here here' all all' (kept_by p side changes) records (rows_wide p own_key ls small row) (rows_wide p p.left.key ls facts.left.key row) here_is new_here turns v right_untold in
            let q = has own_key k in
            let before = output_alike p.left (Some side) a ls (left p s line) all all holds.lefts (like all) in
            let later = output_alike p.left (Some side) a ls (left p s after) all' all' (subst (λ (ms : List Cells). IsAlike row_cmp ls ms) (sym step.still) holds.lefts) (like all') in
            subst (λ o. TurnsBy p s i k o line after records) (sym there)
            (turns_alike (filter q (output p.left (Some side) a ls all)) (filter q (output p.left (Some side) a (left p s line) all)) (filter q (output p.left (Some side) a ls all')) (filter q (output p.left (Some side) a (left p s after) all')) (filter (λ (r : Record). q r.row) records)
            (alike_filter q (output p.left (Some side) a ls all) (output p.left (Some side) a (left p s line) all) before) (alike_filter q (output p.left (Some side) a ls all') (output p.left (Some side) a (left p s after) all') later) w)
