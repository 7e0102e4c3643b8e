-- The left rows whose change cannot be told, and the keys of views that they have.
use Rattle.std.proofs.Common.{◌≡◌, ℕ, zero, suc, ◌+◌, ◌<◌, ◌≤◌, Bool, true, false, cond, not, ◌&&◌, ◌||◌, List, [], ◌∷◌, ◌++◌, map, flat_map, filter, length, take, slice_index_or, Option, Some, None, refl, ap, sym, ◌∙◌, subst, arith, true≢false}
use Rattle.std.specs.List.{list_any}
use Rattle.std.specs.Prelude.{Vec}
use Rattle.std.specs.Global.{Global}
use Rattle.std.proofs.lemmas.List.{map-append, take_all, take_more}
use Rattle.row.specs.Bags.{Each, IsAscending, sorted}
use Rattle.row.specs.Cells.{Cells, Datum, cell_at, datum_cmp, datum_of, has, row_cmp, same}
use Rattle.row.specs.CellOrder.{row_total, row_same}
use Rattle.row.specs.declared.record.Record.{Record}
use Rattle.row.specs.declared.value.Value.{Value}
use Rattle.row.proofs.BagLemmas.{IsAscending-sorted, one_list, times-sorted}
use Rattle.row.proofs.Keys.{has_wide}
use Rattle.row.proofs.Shards.{passes_there}
use Rattle.plan.specs.Kinds.{is_row}
use Rattle.plan.specs.Layouts.{Layout, SideLayout, ViewLayout, no_view, table_at, view_at}
use Rattle.plan.specs.Outputs.{keys_of, pass}
use Rattle.model.specs.Queries.{Line, left}
use Rattle.ops.specs.SideRows.{is_here}
use Rattle.ops.specs.Stages.{right_key}
use Rattle.ops.specs.declared.side.Side.{Side}
use Rattle.ops.specs.declared.side.Side.TheVariants.{Left, Right}
use Rattle.packet.specs.Keys.{Keys, is_among}
use Rattle.packet.specs.Marks.{Gathering}
use Rattle.packet.specs.Messages.{Ask}
use Rattle.packet.specs.Readers.{Reader, is_of, is_left}
use Rattle.packet.proofs.Ascending.{among_filter, among_keys, among_sorted}
use Rattle.protocol.specs.Stages.{Stage, keys_for, knows, of_stage_key}
use Rattle.protocol.specs.StageSteps.{passing, unknown, unknown_rights}
use Rattle.right_rows.specs.Rights.{keys_in}
use Rattle.stage_sides.specs.Held.{Held, IsSetOf, untold_lefts}
use Rattle.stage_sides.specs.Kept.{is_kept, kept_at, kept_by}
use Rattle.stage_sides.specs.Sides.{is_known}
use Rattle.stage_steps.specs.Shards.{HoldsRows}
use Rattle.stage_steps.specs.Sides.{names_of, passing_at, passing_of, source_side}
use Rattle.stage_steps.specs.Told.{evicts_at, names_in}
use Rattle.stage_steps.proofs.Names.{set_is}
use Rattle.protocol.proofs.Owns.{each_first}

-- ---- the protocol's word for these rows
pub knows_is : (keys : Option Keys) (x : Datum) → is_known x keys ≡ knows keys x
knows_is None x = refl
knows_is (Some keys) x = refl

module _ (p : Layout) (s : ℕ) (line : Line) (pending : List Ask) (marks : List Gathering) (h : Held) where
  abbrev pub seen : Stage
  seen = record { plan = p; shard = s; line = line; right = keys_in h.right; pending = pending; asked = None; marks = marks }

  module _ (holds : HoldsRows p s line h) (up : IsAscending row_cmp h.lefts) (column : h.right.column ≡ right_key h.plan.right) (known : (k : Datum) → is_here h.right k ≡ is_known k (keys_in h.right)) where
    here_is : (x : Datum) → is_here h.right x ≡ knows (keys_in h.right) x
    here_is x = known x ∙ knows_is (keys_in h.right) x

    pub lefts_are : h.lefts ≡ sorted row_cmp (left p s line)
    lefts_are = one_list row_cmp row_total row_same h.lefts (sorted row_cmp (left p s line)) up (IsAscending-sorted row_cmp row_total (left p s line)) (λ z. let a = holds.lefts.each z in omega (arith, a, times-sorted row_cmp z (left p s line)))

    key_is : h.plan.left.key ≡ p.left.key
    key_is = ap (λ (q : Layout). q.left.key) holds.plan

    untold_left : (rs : List Record) → untold_lefts Left h (passing_of p.left rs) ≡ filter (λ l. not (knows (keys_in h.right) (cell_at l p.left.key))) (passing p.left rs)
    untold_left [] = refl
    untold_left (r ∷ rs) = step (pass p.left.conditions r.row) (knows (keys_in h.right) (cell_at r.row p.left.key)) (ap (λ c. is_here h.right (cell_at r.row c)) key_is ∙ here_is (cell_at r.row p.left.key)) refl (untold_left rs)
      where
        step : (a b : Bool) → is_here h.right (cell_at r.row h.plan.left.key) ≡ b → knows (keys_in h.right) (cell_at r.row p.left.key) ≡ b → untold_lefts Left h (passing_of p.left rs) ≡ filter (λ l. not (knows (keys_in h.right) (cell_at l p.left.key))) (passing p.left rs)
            → untold_lefts Left h (cond a (r ∷ passing_of p.left rs) (passing_of p.left rs)) ≡ filter (λ l. not (knows (keys_in h.right) (cell_at l p.left.key))) (cond a (r.row ∷ passing p.left rs) (passing p.left rs))
        step false b e f rest = rest
        step true true e f rest = rw (e, f) rest
        step true false e f rest = rw (e, f) (ap (λ l. r.row ∷ l) rest)

    module _ (side : SideLayout) (there : p.right ≡ Some side) where
      column_is : h.right.column ≡ side.key
      column_is = column ∙ (ap (λ (q : Layout). right_key q.right) holds.plan ∙ ap right_key there)

      of_key : (x : Datum) → filter (has h.plan.left.key x) h.lefts ≡ of_stage_key seen x
      of_key x = rw (key_is, lefts_are) refl

      untold_right : (rs : List Record) → untold_lefts Right h (passing_of side rs) ≡ unknown_rights seen (Some side) rs
      untold_right [] = refl
      untold_right (r ∷ rs) = step (pass side.conditions r.row) (knows (keys_in h.right) (cell_at r.row side.key)) (here_is (cell_at r.row side.key)) refl (untold_right rs)
        where
          first : ℕ → List Cells
          first c = cond (is_here h.right (cell_at r.row c)) [] (filter (has h.plan.left.key (cell_at r.row c)) h.lefts)

          by : (b : Bool) → is_here h.right (cell_at r.row side.key) ≡ b → knows (keys_in h.right) (cell_at r.row side.key) ≡ b → untold_lefts Right h (passing_of side rs) ≡ unknown_rights seen (Some side) rs
              → first side.key ++ untold_lefts Right h (passing_of side rs)
              ≡ flat_map (of_stage_key seen) (filter (λ x. not (knows (keys_in h.right) x)) (cell_at r.row side.key ∷ map (λ r. cell_at r side.key) (passing side rs)))
          by true e f rest = rw (e, f) rest
          by false e f rest = rw (e, f) (λ i. of_key (cell_at r.row side.key) i ++ rest i)

          step : (a b : Bool) → is_here h.right (cell_at r.row side.key) ≡ knows (keys_in h.right) (cell_at r.row side.key) → knows (keys_in h.right) (cell_at r.row side.key) ≡ b → untold_lefts Right h (passing_of side rs) ≡ unknown_rights seen (Some side) rs
              → untold_lefts Right h (cond a (r ∷ passing_of side rs) (passing_of side rs))
              ≡ flat_map (of_stage_key seen) (filter (λ x. not (knows (keys_in h.right) x)) (map (λ r. cell_at r side.key) (cond a (r.row ∷ passing side rs) (passing side rs))))
          step false b e f rest = rest
          step true b e f rest = ap (λ c. first c ++ untold_lefts Right h (passing_of side rs)) column_is ∙ by b (e ∙ f) f rest

    untold_rights : (right : Option SideLayout) → p.right ≡ right → (rs : List Record) → untold_lefts Right h (passing_at (record p { right = right }) Right rs) ≡ unknown_rights seen right rs
    untold_rights None there rs = refl
    untold_rights (Some side) there rs = untold_right side there rs

    pub untold_is : (j : ℕ) (rs : List Record) → untold_lefts (source_side p j) h (passing_at p (source_side p j) rs) ≡ unknown seen j rs
    untold_is j rs = by (is_left p j)
      where
        by : (b : Bool) → untold_lefts (cond b Left Right) h (passing_at p (cond b Left Right) rs) ≡ cond b (filter (λ l. not (knows (keys_in h.right) (cell_at l p.left.key))) (passing p.left rs)) (unknown_rights seen p.right rs)
        by true = untold_left rs
        by false = untold_rights p.right refl rs

-- ---- the records that a side takes are among those that pass
kept_passing : (p : Layout) (side : SideLayout) (rs : List Record) → kept_by p side (passing_of side rs) ≡ kept_by p side rs
kept_passing p side [] = refl
kept_passing p side (r ∷ rs) = step (is_row (table_at p side.table).columns r.row) (pass side.conditions r.row) refl refl (kept_passing p side rs)
  where
    step : (a b : Bool) → is_row (table_at p side.table).columns r.row ≡ a → pass side.conditions r.row ≡ b → kept_by p side (passing_of side rs) ≡ kept_by p side rs
        → kept_by p side (cond b (r ∷ passing_of side rs) (passing_of side rs)) ≡ cond (a && b) (r ∷ kept_by p side rs) (kept_by p side rs)
    step true true e f rest = rw (e, f) (ap (λ l. r ∷ l) rest)
    step true false e f rest = rest
    step false true e f rest = rw e rest
    step false false e f rest = rest

pub kept_same : (p : Layout) (side : Side) (rs : List Record) → kept_at p side (passing_at p side rs) ≡ kept_at p side rs
kept_same p Left rs = kept_passing p p.left rs
kept_same p Right rs = by p.right
  where
    by : (right : Option SideLayout) → kept_at (record p { right = right }) Right (passing_at (record p { right = right }) Right rs) ≡ kept_at (record p { right = right }) Right rs
    by None = refl
    by (Some side) = kept_passing (record p { right = Some side }) side rs

-- ---- their keys
set_of_rows : (c : ℕ) (rows : List Cells) (ds : List Datum) → IsSetOf (map (λ l. cell_at l c) rows) ds → ds ≡ sorted datum_cmp (keys_of c rows)
set_of_rows c rows ds set = set_is c rows rows ds (record { each = λ z. refl }) set

-- one view more
pub more_names : (p q : Layout) (rows : List Cells) (i : ℕ) (names then : List (Vec Value Global)) (v : Vec Value Global) → q ≡ p → i < length p.views → names_in names ≡ map (λ (v : ViewLayout). sorted datum_cmp (keys_of v.key rows)) (take i p.views) → then ≡ names ++ v ∷ []
    → IsSetOf (map (λ l. cell_at l (view_at q i).key) rows) (map datum_of v.items) → names_in then ≡ map (λ (v : ViewLayout). sorted datum_cmp (keys_of v.key rows)) (take (i + 1) p.views)
more_names p q rows i names then v same lt before put set =
    let f : ViewLayout → List Datum = λ (v : ViewLayout). sorted datum_cmp (keys_of v.key rows) in
    let own = set_of_rows (view_at p i).key rows (map datum_of v.items) (subst (λ (q : Layout). IsSetOf (map (λ l. cell_at l (view_at q i).key) rows) (map datum_of v.items)) same set) in
    ap names_in put ∙ (map-append (λ (v : Vec Value Global). map datum_of v.items) names (v ∷ [])
    ∙ ((λ j. before j ++ own j ∷ []) ∙ (sym (map-append f (take i p.views) (view_at p i ∷ [])) ∙ ap (map f) (sym (take_more p.views i no_view lt)))))

pub all_names : (p : Layout) (rows : List Cells) (i : ℕ) (names : List (Vec Value Global)) → length p.views ≤ i → names_in names ≡ map (λ (v : ViewLayout). sorted datum_cmp (keys_of v.key rows)) (take i p.views) → names_in names ≡ names_of p rows
all_names p rows i names all is = is ∙ ap (map (λ (v : ViewLayout). sorted datum_cmp (keys_of v.key rows))) (take_all i p.views all)

names_at : (vs : List ViewLayout) (rows : List Cells) (i : ℕ) → i < length vs → slice_index_or (map (λ (v : ViewLayout). sorted datum_cmp (keys_of v.key rows)) vs) i [] ≡ sorted datum_cmp (keys_of (slice_index_or vs i no_view).key rows)
names_at [] rows i lt = absurd (omega arith)
names_at (v ∷ vs) rows zero lt = refl
names_at (v ∷ vs) rows (suc i) lt = names_at vs rows i (omega (arith, lt))

-- what a packet evicts by these names is what the protocol says
pub evicts_are : (p : Layout) (rows : List Cells) (r : Reader) → r.view < length p.views → evicts_at p (names_of p rows) r ≡ keys_for p rows r
evicts_are p rows r lt = ap (filter (λ k. is_of p r.view k r)) (names_at p.views rows r.view lt)

-- ---- a key that is not evicted is of none of them
none_of_key : (c : ℕ) (k : Datum) (rows : List Cells) → list_any (λ l. same (cell_at l c) k) rows ≡ false → Each (λ l. has c k l ≡ false) rows
none_of_key c k [] h = tt
none_of_key c k (l ∷ ls) h = (step (has c k l) refl, none_of_key c k ls (or_right (same (cell_at l c) k) (list_any (λ l. same (cell_at l c) k) ls) h))
  where
    or_left : (a b : Bool) → (a || b) ≡ false → a ≡ false
    or_left false b e = refl
    or_left true b e = e

    or_right : (a b : Bool) → (a || b) ≡ false → b ≡ false
    or_right false b e = e
    or_right true b e = absurd (true≢false e)

    step : (b : Bool) → has c k l ≡ b → has c k l ≡ false
    step false e = e
    step true e =
        let own : same (cell_at l c) k ≡ true = sym (passes_there (λ x. same x k) l c (has_wide c k l e)) ∙ e in
        absurd (true≢false (sym own ∙ or_left (same (cell_at l c) k) (list_any (λ l. same (cell_at l c) k) ls) h))

pub spared : (p : Layout) (rows : List Cells) (r : Reader) (k : Datum) → r.view < length p.views → is_of p r.view k r ≡ true → is_among (evicts_at p (names_of p rows) r) k ≡ false → Each (λ l. has (view_at p r.view).key k l ≡ false) rows
spared p rows r k lt of none =
    let c = (view_at p r.view).key in
    let a : (is_of p r.view k r && is_among (sorted datum_cmp (keys_of c rows)) k) ≡ false = sym (among_filter (λ k. is_of p r.view k r) (sorted datum_cmp (keys_of c rows)) k) ∙ (ap (λ ks. is_among ks k) (sym (evicts_are p rows r lt)) ∙ none) in
    let b : is_among (sorted datum_cmp (keys_of c rows)) k ≡ false = sym (ap (λ t. t && is_among (sorted datum_cmp (keys_of c rows)) k) of) ∙ a in
    none_of_key c k rows (sym (among_sorted (keys_of c rows) k ∙ among_keys c rows k) ∙ b)

-- of the records of a side
pub left_spared : (c : ℕ) (k : Datum) (h : Held) (rs : List Record) → Each (λ l. has c k l ≡ false) (untold_lefts Left h rs) → Each (λ (r : Record). is_here h.right (cell_at r.row h.plan.left.key) ≡ false → has c k r.row ≡ false) rs
left_spared c k h [] e = tt
left_spared c k h (r ∷ rs) e = step (is_here h.right (cell_at r.row h.plan.left.key)) refl e (left_spared c k h rs)
  where
    step : (b : Bool) → is_here h.right (cell_at r.row h.plan.left.key) ≡ b → Each (λ l. has c k l ≡ false) (cond b [] (r.row ∷ []) ++ untold_lefts Left h rs)
        → (Each (λ l. has c k l ≡ false) (untold_lefts Left h rs) → Each (λ (r : Record). is_here h.right (cell_at r.row h.plan.left.key) ≡ false → has c k r.row ≡ false) rs)
        → Each (λ (r : Record). is_here h.right (cell_at r.row h.plan.left.key) ≡ false → has c k r.row ≡ false) (r ∷ rs)
    step true i e rest = (λ n. absurd (true≢false (sym i ∙ n)), rest e)
    step false i e rest = (λ n. e.0, rest e.1)

each_of_filter : (P : Cells → Type 0) (q : Cells → Bool) (xs : List Cells) → Each P (filter q xs) → Each (λ x. q x ≡ true → P x) xs
each_of_filter P q [] e = tt
each_of_filter P q (x ∷ xs) e = step (q x) refl e (each_of_filter P q xs)
  where
    step : (b : Bool) → q x ≡ b → Each P (cond b (x ∷ filter q xs) (filter q xs)) → (Each P (filter q xs) → Each (λ x. q x ≡ true → P x) xs) → Each (λ x. q x ≡ true → P x) (x ∷ xs)
    step true i e rest = (λ n. e.0, rest e.1)
    step false i e rest = (λ n. absurd (true≢false (sym n ∙ i)), rest e)

pub right_spared : (c : ℕ) (k : Datum) (h : Held) (rs : List Record) → Each (λ l. has c k l ≡ false) (untold_lefts Right h rs)
    → Each (λ (r : Record). is_here h.right (cell_at r.row h.right.column) ≡ false → Each (λ l. has h.plan.left.key (cell_at r.row h.right.column) l ≡ true → has c k l ≡ false) h.lefts) rs
right_spared c k h [] e = tt
right_spared c k h (r ∷ rs) e = step (is_here h.right (cell_at r.row h.right.column)) refl e (right_spared c k h rs)
  where
    step : (b : Bool) → is_here h.right (cell_at r.row h.right.column) ≡ b → Each (λ l. has c k l ≡ false) (cond b [] (filter (has h.plan.left.key (cell_at r.row h.right.column)) h.lefts) ++ untold_lefts Right h rs)
        → (Each (λ l. has c k l ≡ false) (untold_lefts Right h rs) → Each (λ (r : Record). is_here h.right (cell_at r.row h.right.column) ≡ false → Each (λ l. has h.plan.left.key (cell_at r.row h.right.column) l ≡ true → has c k l ≡ false) h.lefts) rs)
        → Each (λ (r : Record). is_here h.right (cell_at r.row h.right.column) ≡ false → Each (λ l. has h.plan.left.key (cell_at r.row h.right.column) l ≡ true → has c k l ≡ false) h.lefts) (r ∷ rs)
    step true i e rest = (λ n. absurd (true≢false (sym i ∙ n)), rest e)
    step false i e rest =
        let both = each_first (λ l. has c k l ≡ false) (filter (has h.plan.left.key (cell_at r.row h.right.column)) h.lefts) (untold_lefts Right h rs) e in
        (λ n. each_of_filter (λ l. has c k l ≡ false) (has h.plan.left.key (cell_at r.row h.right.column)) h.lefts both.0, rest both.1)

-- they are taken as they are
filter_twice : (q : Record → Bool) (rs : List Record) → filter q (filter q rs) ≡ filter q rs
filter_twice q [] = refl
filter_twice q (r ∷ rs) = step (q r) refl (filter_twice q rs)
  where
    step : (b : Bool) → q r ≡ b → filter q (filter q rs) ≡ filter q rs → filter q (cond b (r ∷ filter q rs) (filter q rs)) ≡ cond b (r ∷ filter q rs) (filter q rs)
    step true e k = rw e (ap (λ l. r ∷ l) k)
    step false e k = k

pub kept_twice : (p : Layout) (side : Side) (rs : List Record) → kept_at p side (kept_at p side rs) ≡ kept_at p side rs
kept_twice p Left rs = filter_twice (λ (r : Record). is_kept p p.left r.row) rs
kept_twice p Right rs = by p.right
  where
    by : (right : Option SideLayout) → kept_at (record p { right = right }) Right (kept_at (record p { right = right }) Right rs) ≡ kept_at (record p { right = right }) Right rs
    by None = refl
    by (Some side) = filter_twice (λ (r : Record). is_kept (record p { right = Some side }) side r.row) rs
