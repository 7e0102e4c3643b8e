-- Rows that are stored under their keys: what a look-up says of them.
use Rattle.std.proofs.Common.{◌≡◌, ℕ, Bool, true, false, ◌||◌, not, cond, List, [], ◌∷◌, map, filter, Some, is_some, slice_get, refl, ap, sym, ◌∙◌}
use Rattle.std.specs.List.{list_any, IsDistinct}
use Rattle.std.specs.Map.{keys_of, values_of, lookup, remove_entry, set_value}
use Rattle.std.proofs.lemmas.List.Elements.{All-head, All-tail, All-cons}
use Rattle.std.proofs.lemmas.Map.Keys.{IsDistinct-tail}
use Rattle.std.proofs.lemmas.Map.{NonePasses}
use Rattle.std.proofs.lemmas.Map.Entries.{none_past_head}
use Rattle.row.specs.Cells.{Cells, datum_of, same, passes, has}
use Rattle.row.proofs.Cellwise.{eq-value_is}
use Rattle.row.proofs.Keys.{same_flip, equal_is, value_equivalence}
use Rattle.row.specs.declared.value.Value.{Value}
use Rattle.row.specs.contracts.value.ValuePartialEq.TheImpl.{eq-value}
use Rattle.base.specs.Stored.{IsKeyed, AreKeyed}

-- a row has the key of a look-up exactly if its own key is equal to it
pub has_is : (key : ℕ) (v w : Value) (row : Cells) → slice_get row key ≡ Some (datum_of w) → has key (datum_of v) row ≡ eq-value.it v w
has_is key v w row own = ap (passes (λ x. same x (datum_of v))) own ∙ (same_flip (datum_of w) (datum_of v) ∙ sym (eq-value_is v w))

-- a key is held exactly if the look-up finds it
pub held_is : (key : ℕ) (v : Value) (es : List (Value × Cells)) → AreKeyed key es → list_any (has key (datum_of v)) (values_of es) ≡ is_some (lookup (eq-value.it v) es)
held_is key v [] keyed = refl
held_is key v (e ∷ es) keyed =
    ap (λ b. b || list_any (has key (datum_of v)) (values_of es)) (has_is key v e.0 e.1 (All-head (IsKeyed key) e es keyed))
    ∙ step (eq-value.it v e.0) (held_is key v es (All-tail (IsKeyed key) e es keyed))
  where
    step : (b : Bool) → list_any (has key (datum_of v)) (values_of es) ≡ is_some (lookup (eq-value.it v) es)
        → (b || list_any (has key (datum_of v)) (values_of es)) ≡ is_some (cond b (Some e.1) (lookup (eq-value.it v) es))
    step true h = refl
    step false h = h

-- no row past the first has its key
apart_tail : (key : ℕ) (v : Value) (e : Value × Cells) (es : List (Value × Cells)) → IsDistinct eq-value.it (keys_of (e ∷ es)) → eq-value.it v e.0 ≡ true → NonePasses (eq-value.it v) es
apart_tail key v e es d h = none_past_head value_equivalence v e es d h

-- where no key passes, each row is kept and none is changed
kept_all : (key : ℕ) (v : Value) (es : List (Value × Cells)) → AreKeyed key es → NonePasses (eq-value.it v) es → filter (λ x. not (has key (datum_of v) x)) (values_of es) ≡ values_of es
kept_all key v [] keyed none = refl
kept_all key v (e ∷ es) keyed none =
    ap (λ b. cond (not b) (e.1 ∷ filter (λ x. not (has key (datum_of v) x)) (values_of es)) (filter (λ x. not (has key (datum_of v) x)) (values_of es)))
    (has_is key v e.0 e.1 (All-head (IsKeyed key) e es keyed) ∙ none.0)
    ∙ ap (λ t. e.1 ∷ t) (kept_all key v es (All-tail (IsKeyed key) e es keyed) none.1)

changed_none : (key : ℕ) (v : Value) (row : Cells) (es : List (Value × Cells)) → AreKeyed key es → NonePasses (eq-value.it v) es → map (λ x. cond (has key (datum_of v) x) row x) (values_of es) ≡ values_of es
changed_none key v row [] keyed none = refl
changed_none key v row (e ∷ es) keyed none =
    ap (λ b. cond b row e.1 ∷ map (λ x. cond (has key (datum_of v) x) row x) (values_of es)) (has_is key v e.0 e.1 (All-head (IsKeyed key) e es keyed) ∙ none.0)
    ∙ ap (λ t. e.1 ∷ t) (changed_none key v row es (All-tail (IsKeyed key) e es keyed) none.1)

-- the rows without those of the key are the entries without the one of the key
pub removed_is : (key : ℕ) (v : Value) (es : List (Value × Cells)) → AreKeyed key es → IsDistinct eq-value.it (keys_of es)
    → filter (λ x. not (has key (datum_of v) x)) (values_of es) ≡ values_of (remove_entry (eq-value.it v) es)
removed_is key v [] keyed d = refl
removed_is key v (e ∷ es) keyed d =
    ap (λ b. cond (not b) (e.1 ∷ kept) kept) (has_is key v e.0 e.1 (All-head (IsKeyed key) e es keyed)) ∙ step (eq-value.it v e.0) refl (removed_is key v es below (IsDistinct-tail eq-value.it e.0 (keys_of es) d))
  where
    kept : List Cells
    kept = filter (λ x. not (has key (datum_of v) x)) (values_of es)

    below : AreKeyed key es
    below = All-tail (IsKeyed key) e es keyed

    step : (b : Bool) → eq-value.it v e.0 ≡ b → filter (λ x. not (has key (datum_of v) x)) (values_of es) ≡ values_of (remove_entry (eq-value.it v) es)
        → cond (not b) (e.1 ∷ filter (λ x. not (has key (datum_of v) x)) (values_of es)) (filter (λ x. not (has key (datum_of v) x)) (values_of es)) ≡ values_of (cond b es (e ∷ remove_entry (eq-value.it v) es))
    step true h rest = kept_all key v es (All-tail (IsKeyed key) e es keyed) (apart_tail key v e es d h)
    step false h rest = ap (λ t. e.1 ∷ t) rest

-- the rows with this one in place of that of its key are the entries with it as the value of its key
pub updated_is : (key : ℕ) (v : Value) (row : Cells) (es : List (Value × Cells)) → AreKeyed key es → IsDistinct eq-value.it (keys_of es)
    → map (λ x. cond (has key (datum_of v) x) row x) (values_of es) ≡ values_of (set_value (eq-value.it v) es row)
updated_is key v row [] keyed d = refl
updated_is key v row (e ∷ es) keyed d =
    ap (λ b. cond b row e.1 ∷ map (λ x. cond (has key (datum_of v) x) row x) (values_of es)) (has_is key v e.0 e.1 (All-head (IsKeyed key) e es keyed))
    ∙ step (eq-value.it v e.0) refl (updated_is key v row es (All-tail (IsKeyed key) e es keyed) (IsDistinct-tail eq-value.it e.0 (keys_of es) d))
  where
    step : (b : Bool) → eq-value.it v e.0 ≡ b → map (λ x. cond (has key (datum_of v) x) row x) (values_of es) ≡ values_of (set_value (eq-value.it v) es row)
        → cond b row e.1 ∷ map (λ x. cond (has key (datum_of v) x) row x) (values_of es) ≡ values_of (cond b ((e.0, row) ∷ es) (e ∷ set_value (eq-value.it v) es row))
    step true h rest = ap (λ t. row ∷ t) (changed_none key v row es (All-tail (IsKeyed key) e es keyed) (apart_tail key v e es d h))
    step false h rest = ap (λ t. e.1 ∷ t) rest

-- each row stays under its own key
pub keyed_removed : (key : ℕ) (test : Value → Bool) (es : List (Value × Cells)) → AreKeyed key es → AreKeyed key (remove_entry test es)
keyed_removed key test [] keyed = keyed
keyed_removed key test (e ∷ es) keyed = step (test e.0) (keyed_removed key test es (All-tail (IsKeyed key) e es keyed))
  where
    step : (b : Bool) → AreKeyed key (remove_entry test es) → AreKeyed key (cond b es (e ∷ remove_entry test es))
    step true h = All-tail (IsKeyed key) e es keyed
    step false h = All-cons (IsKeyed key) e (remove_entry test es) (All-head (IsKeyed key) e es keyed) h

pub keyed_updated : (key : ℕ) (v : Value) (row : Cells) (es : List (Value × Cells)) → slice_get row key ≡ Some (datum_of v) → AreKeyed key es → AreKeyed key (set_value (eq-value.it v) es row)
keyed_updated key v row [] own keyed = keyed
keyed_updated key v row (e ∷ es) own keyed = step (eq-value.it v e.0) refl (keyed_updated key v row es own (All-tail (IsKeyed key) e es keyed))
  where
    step : (b : Bool) → eq-value.it v e.0 ≡ b → AreKeyed key (set_value (eq-value.it v) es row) → AreKeyed key (cond b ((e.0, row) ∷ es) (e ∷ set_value (eq-value.it v) es row))
    step true h rest = All-cons (IsKeyed key) (e.0, row) es (own ∙ ap Some (equal_is v e.0 h)) (All-tail (IsKeyed key) e es keyed)
    step false h rest = All-cons (IsKeyed key) e (set_value (eq-value.it v) es row) (All-head (IsKeyed key) e es keyed) rest
