-- The keys of a view that left rows have.
use Rattle.std.proofs.Common.{◌≡◌, ℕ, zero, suc, ◌+◌, ◌<◌, ◌≤◌, Bool, true, false, ◌||◌, List, [], ◌∷◌, ◌++◌, map, filter, length, take, slice_index_or, Option, None, refl, ap, sym, ◌∙◌, subst}
use Rattle.std.specs.List.{list_any}
use Rattle.row.specs.Cells.{Datum, Cells, cell_at, datum_cmp, datum_of, has, row_cmp, same}
use Rattle.row.specs.CellOrder.{row_total, row_same}
use Rattle.row.specs.Bags.{IsAlike, sorted}
use Rattle.row.specs.declared.value.Value.{Value}
use Rattle.row.proofs.Alike.{over, over_alike, filter_alike}
use Rattle.row.proofs.BagLemmas.{times-sorted}
use Rattle.plan.specs.Outputs.{keys_of}
use Rattle.packet.specs.Keys.{Ascends, is_among}
use Rattle.packet.proofs.Ascending.{one_set, ascends_keys, among_keys, among_sorted}
use Rattle.std.specs.Prelude.{Vec}
use Rattle.std.specs.Global.{Global}
use Rattle.std.proofs.lemmas.List.{map-append, take_all, take_more}
use Rattle.model.specs.Queries.{left}
use Rattle.packet.proofs.Ascending.{ascends_filter}
use Rattle.packet.specs.Lines.{entries_of}
use Rattle.packet.specs.Messages.{StagePacketView}
use Rattle.packet.specs.Readers.{Reader, is_of, readers}
use Rattle.packet.specs.Truth.{IsTrueStage}
use Rattle.plan.specs.Layouts.{Layout, ViewLayout, no_view, view_at}
use Rattle.protocol.specs.Stages.{of_stage_key}
use Rattle.stage_sides.specs.Held.{IsSetOf}
use Rattle.stage_steps.specs.Shards.{IsWhole, Shard, gone_names, gone_to, stage_of}
use Rattle.stage_steps.specs.Told.{names_in, perhaps, told, told_if}
use Rattle.stage_steps.proofs.Truths.{still_true}
use Rattle.std.proofs.lemmas.Simd.{map-map}

or_flip : (a b c : Bool) → (a || (b || c)) ≡ (b || (a || c))
or_flip true true c = refl
or_flip true false c = refl
or_flip false true c = refl
or_flip false false c = refl

any_over : (p : Cells → Bool) (xs : List Cells) → list_any p xs ≡ over (λ a b. a || b) false p xs
any_over p [] = refl
any_over p (x ∷ xs) = ap (λ b. p x || b) (any_over p xs)

pub any_alike : (p : Cells → Bool) (xs ys : List Cells) → IsAlike row_cmp xs ys → list_any p xs ≡ list_any p ys
any_alike p xs ys h = any_over p xs ∙ (over_alike row_cmp row_total row_same (λ a b. a || b) false or_flip p xs ys h ∙ sym (any_over p ys))

among_cells : (c : ℕ) (k : Datum) (xs : List Cells) → is_among (map (λ l. cell_at l c) xs) k ≡ list_any (λ l. same (cell_at l c) k) xs
among_cells c k [] = refl
among_cells c k (x ∷ xs) = ap (λ b. same (cell_at x c) k || b) (among_cells c k xs)

-- the set of the keys of these rows is the keys of a like bag, in order and each once
pub set_is : (c : ℕ) (xs ys : List Cells) (ds : List Datum) → IsAlike row_cmp xs ys → IsSetOf (map (λ l. cell_at l c) xs) ds → ds ≡ sorted datum_cmp (keys_of c ys)
set_is c xs ys ds alike set =
    one_set ds (sorted datum_cmp (keys_of c ys)) set.order (ascends_keys c ys)
    (λ k. set.each k ∙ (among_cells c k xs ∙ (any_alike (λ l. same (cell_at l c) k) xs ys alike ∙ sym (among_sorted (keys_of c ys) k ∙ among_keys c ys k))))

-- of the left rows of a stage key
pub gone_is : (c key : ℕ) (x : Datum) (rows lefts : List Cells) (ds : List Datum) → IsAlike row_cmp rows lefts → IsSetOf (map (λ l. cell_at l c) (filter (has key x) rows)) ds → ds ≡ sorted datum_cmp (keys_of c (filter (has key x) (sorted row_cmp lefts)))
gone_is c key x rows lefts ds alike set =
    set_is c (filter (has key x) rows) (filter (has key x) (sorted row_cmp lefts)) ds
    (filter_alike row_cmp row_total row_same (has key x) rows (sorted row_cmp lefts) (record { each = λ z. alike.each z ∙ sym (times-sorted row_cmp z lefts) })) set

-- ---- a stage key goes
abbrev pub named_by : Shard → Datum → ViewLayout → List Datum
named_by x k v = sorted datum_cmp (keys_of v.key (of_stage_key (stage_of x) k))

-- one view more
pub names_more : (x : Shard) (k : Datum) (i : ℕ) (names then : List (Vec Value Global)) (v : Vec Value Global) → IsWhole x → i < length x.plan.views → names_in names ≡ map (named_by x k) (take i x.plan.views) → then ≡ names ++ v ∷ []
    → IsSetOf (map (λ l. cell_at l (view_at x.rows.plan i).key) (filter (has x.rows.plan.left.key k) x.rows.lefts)) (map datum_of v.items) → names_in then ≡ map (named_by x k) (take (i + 1) x.plan.views)
names_more x k i names then v whole lt before put set =
    let set' = subst (λ (p : Layout). IsSetOf (map (λ l. cell_at l (view_at p i).key) (filter (has p.left.key k) x.rows.lefts)) (map datum_of v.items)) whole.rows.plan set in
    let own = gone_is (view_at x.plan i).key x.plan.left.key k x.rows.lefts (left x.plan x.shard (entries_of x.line)) (map datum_of v.items) whole.rows.lefts set' in
    ap names_in put ∙ (map-append (λ (v : Vec Value Global). map datum_of v.items) names (v ∷ [])
    ∙ ((λ j. before j ++ own j ∷ []) ∙ (sym (map-append (named_by x k) (take i x.plan.views) (view_at x.plan i ∷ [])) ∙ ap (map (named_by x k)) (sym (take_more x.plan.views i no_view lt)))))

pub names_all : (x : Shard) (k : Datum) (i : ℕ) (names : List (Vec Value Global)) → length x.plan.views ≤ i → names_in names ≡ map (named_by x k) (take i x.plan.views) → names_in names ≡ gone_names x k
names_all x k i names all is = is ∙ ap (map (named_by x k)) (take_all i x.plan.views all)

ascends_at : (x : Shard) (k : Datum) (vs : List ViewLayout) (i : ℕ) → Ascends (slice_index_or (map (named_by x k) vs) i [])
ascends_at x k [] i = tt
ascends_at x k (v ∷ vs) zero = ascends_keys v.key (of_stage_key (stage_of x) k)
ascends_at x k (v ∷ vs) (suc i) = ascends_at x k vs i

-- what is told is true
pub gone_true : (x : Shard) (k : Datum) (names : List (List Datum)) → IsWhole x → names ≡ gone_names x k → (r : Reader) → IsTrueStage (told x.plan x.shard (entries_of x.line) (entries_of x.line) [] names None r)
gone_true x k names whole is r =
    still_true x.plan x.shard (entries_of x.line) names whole.fronts r
    (ascends_filter (λ k. is_of x.plan r.view k r) (slice_index_or names r.view []) (subst (λ ns. Ascends (slice_index_or ns r.view [])) (sym is) (ascends_at x k x.plan.views r.view)))

pub gone_all : (x : Shard) (k : Datum) (names : List (List Datum)) (items : List (Option StagePacketView)) → names ≡ gone_names x k → items ≡ map (told_if false x.plan x.shard (entries_of x.line) (entries_of x.line) [] names None) (readers x.plan)
    → map perhaps items ≡ map (gone_to x k) (readers x.plan)
gone_all x k names items is told = ap (map perhaps) told ∙ (map-map perhaps (told_if false x.plan x.shard (entries_of x.line) (entries_of x.line) [] names None) (readers x.plan) ∙ ap (λ ns. map (λ r. perhaps (told_if false x.plan x.shard (entries_of x.line) (entries_of x.line) [] ns None r)) (readers x.plan)) is)
