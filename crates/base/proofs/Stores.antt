-- The entries after an insertion, a removal or a write in place: how they are stored, and their rows in order.
use Rattle.std.proofs.Common.{◌≡◌, ℕ, ◌<◌, ◌≤◌, true, false, cond, List, [], ◌∷◌, map, Option, Some, None, is_some, IsSome, IfSome, slice_get, length, IsPermutation, Bor, MutBor, refl, ap, sym, ◌∙◌, arith}
use Rattle.std.specs.List.{IsDistinct}
use Rattle.std.specs.Map.{keys_of, values_of, lookup, remove_entry, set_value}
use Rattle.std.specs.HashMap.{HashMap, IsUnique, IsReordered, values, spare}
use Rattle.std.proofs.lemmas.List.Elements.{All-cons}
use Rattle.std.proofs.lemmas.List.Sorted.{All-permutation, IsPermutation-map}
use Rattle.row.specs.Cells.{Datum, Cells, datum_of, cell_at, has, row_cmp}
use Rattle.row.specs.CellOrder.{row_total, row_same}
use Rattle.row.specs.Bags.{sorted}
use Rattle.row.proofs.BagLemmas.{times-append, times-sorted}
use Rattle.row.proofs.Alike.{sorted_alike}
use Rattle.row.proofs.Shards.{cell_there}
use Rattle.row.specs.declared.value.Value.{Value}
use Rattle.row.specs.contracts.value.ValuePartialEq.TheImpl.{eq-value}
use Rattle.model.specs.Logs.{inserts, deletes, updates, changed, is_held}
use Rattle.row.specs.Groups.{equal}
use Rattle.row.specs.ValueMaps.{Writes}
use Rattle.base.specs.Stored.{IsKeyed, AreKeyed, IsStored}
use Rattle.base.specs.Shards.{Shard}
use Rattle.std.specs.Option.{option_map, option_copied, option_copied_mut}
use Rattle.base.proofs.Orders.{any_sorted, permuted_alike}
use Rattle.base.proofs.Fronts.{changed_sorted}
use Rattle.base.proofs.Lookups.{held_is, removed_is, updated_is, keyed_removed, keyed_updated}

-- a key is held by the rows in order exactly if the look-up finds it
pub held_sorted : (key : ℕ) (v : Value) (es : List (Value × Cells)) → AreKeyed key es → is_held key (sorted row_cmp (values_of es)) (datum_of v) ≡ is_some (lookup (eq-value.it v) es)
held_sorted key v es keyed = any_sorted row_cmp (has key (datum_of v)) (values_of es) ∙ held_is key v es keyed

permuted_rows : (es fs : List (Value × Cells)) → IsPermutation es fs → sorted row_cmp (values_of fs) ≡ sorted row_cmp (values_of es)
permuted_rows es fs h = sym (sorted_alike row_cmp row_total row_same (values_of es) (values_of fs) (permuted_alike row_cmp (values_of es) (values_of fs) (IsPermutation-map (λ e. e.1) es fs h)))

-- the entries in another order
pub reordered_rows : {S : Type 0} (m n : HashMap Value Cells S) → IsReordered eq-value.it m n → sorted row_cmp (values n) ≡ sorted row_cmp (values m)
reordered_rows m n h = permuted_rows m.entries n.entries h.0

pub reordered_keyed : {S : Type 0} (key : ℕ) (m n : HashMap Value Cells S) → IsReordered eq-value.it m n → AreKeyed key m.entries → AreKeyed key n.entries
reordered_keyed key m n h keyed = All-permutation (IsKeyed key) m.entries n.entries h.0 keyed

-- the row goes in under its key
pub inserted_rows : (key : ℕ) (v : Value) (row : Cells) (es fs : List (Value × Cells)) → IsPermutation ((v, row) ∷ es) fs
    → sorted row_cmp (values_of fs) ≡ sorted row_cmp (changed key (sorted row_cmp (values_of es)) (inserts row))
inserted_rows key v row es fs h =
    permuted_rows ((v, row) ∷ es) fs h
    ∙ sorted_alike row_cmp row_total row_same (row ∷ values_of es) (changed key (sorted row_cmp (values_of es)) (inserts row))
    (record { each = λ z. omega (arith, times-append row_cmp z (sorted row_cmp (values_of es)) (row ∷ []), times-sorted row_cmp z (values_of es)) })

pub inserted_keyed : (key : ℕ) (v : Value) (row : Cells) (es fs : List (Value × Cells)) → IsPermutation ((v, row) ∷ es) fs → slice_get row key ≡ Some (datum_of v) → AreKeyed key es → AreKeyed key fs
inserted_keyed key v row es fs h own keyed = All-permutation (IsKeyed key) ((v, row) ∷ es) fs h (All-cons (IsKeyed key) (v, row) es own keyed)

-- the row of the key goes
pub deleted_rows : (key : ℕ) (v : Value) (es fs : List (Value × Cells)) → AreKeyed key es → IsDistinct eq-value.it (keys_of es) → IsPermutation (remove_entry (eq-value.it v) es) fs
    → sorted row_cmp (values_of fs) ≡ sorted row_cmp (changed key (sorted row_cmp (values_of es)) (deletes (datum_of v)))
deleted_rows key v es fs keyed d h =
    permuted_rows (remove_entry (eq-value.it v) es) fs h
    ∙ (ap (sorted row_cmp) (sym (removed_is key v es keyed d)) ∙ sym (changed_sorted key (deletes (datum_of v)) (values_of es)))

pub deleted_keyed : (key : ℕ) (v : Value) (es fs : List (Value × Cells)) → IsPermutation (remove_entry (eq-value.it v) es) fs → AreKeyed key es → AreKeyed key fs
deleted_keyed key v es fs h keyed = All-permutation (IsKeyed key) (remove_entry (eq-value.it v) es) fs h (keyed_removed key (eq-value.it v) es keyed)

-- the row takes the place of that of its key
pub updated_rows : (key : ℕ) (v : Value) (row : Cells) (es fs : List (Value × Cells)) → AreKeyed key es → IsDistinct eq-value.it (keys_of es) → datum_of v ≡ cell_at row key
    → fs ≡ set_value (eq-value.it v) es row → sorted row_cmp (values_of fs) ≡ sorted row_cmp (changed key (sorted row_cmp (values_of es)) (updates row))
updated_rows key v row es fs keyed d own h =
    ap (λ t. sorted row_cmp (values_of t)) h
    ∙ (ap (sorted row_cmp) (sym (updated_is key v row es keyed d))
    ∙ (ap (λ k. sorted row_cmp (map (λ x. cond (has key k x) row x) (values_of es))) own ∙ sym (changed_sorted key (updates row) (values_of es))))

-- ---- what the code's steps leave of a shard
-- a key that is not held is not found
pub absent_lookup : (key : ℕ) (v : Value) (d : Datum) (es : List (Value × Cells)) → AreKeyed key es → datum_of v ≡ d → is_held key (sorted row_cmp (values_of es)) d ≡ false → lookup (equal v) es ≡ None
absent_lookup key v d es keyed own h = step (lookup (equal v) es) (sym (held_sorted key v es keyed) ∙ (ap (is_held key (sorted row_cmp (values_of es))) own ∙ h))
  where
    step : (o : Option Cells) → is_some o ≡ false → o ≡ None
    step None h = refl
    step (Some row) h = cc

-- the cell that was read is the row's key
pub own_cell : (row : Cells) (key : ℕ) (d : Datum) → key < length row → slice_get row key ≡ Some d → d ≡ cell_at row key
own_cell row key d small read = let h : Some d ≡ Some (cell_at row key) = sym read ∙ cell_there row key small in cc

-- a key that is held is found
pub place_there : (key : ℕ) (v : Value) (d : Datum) (es : List (Value × Cells)) → AreKeyed key es → datum_of v ≡ d → is_held key (sorted row_cmp (values_of es)) d ≡ true
    → (found : Option (MutBor Cells)) → option_copied_mut found ≡ lookup (equal v) es → IsSome found
place_there key v d es keyed own h found is =
    step found (ap is_some is ∙ (sym (held_sorted key v es keyed) ∙ (ap (is_held key (sorted row_cmp (values_of es))) own ∙ h)))
  where
    step : (o : Option (MutBor Cells)) → is_some (option_copied_mut o) ≡ true → IsSome o
    step None h = cc
    step (Some x) h = refl

-- what is found says whether the key is held
pub found_held : (key : ℕ) (v : Value) (d : Datum) (es : List (Value × Cells)) → AreKeyed key es → datum_of v ≡ d → (found : Option (Bor Cells)) → option_copied found ≡ lookup (equal v) es → is_some found ≡ is_held key (sorted row_cmp (values_of es)) d
found_held key v d es keyed own found is =
    step found ∙ (ap is_some is ∙ (sym (held_sorted key v es keyed) ∙ ap (is_held key (sorted row_cmp (values_of es))) own))
  where
    step : (o : Option (Bor Cells)) → is_some o ≡ is_some (option_copied o)
    step None = refl
    step (Some x) = refl

-- the key that is ready is that for which there is room
pub ready_is : (ready : Option Value) (v : Value) (d : Datum) → ready ≡ Some v → option_map datum_of ready ≡ Some d → datum_of v ≡ d
ready_is ready v d is room = let own : Some (datum_of v) ≡ Some d = sym (ap (option_map datum_of) is) ∙ room in cc

room_kept : (ready : Option Value) (a b : ℕ) → a ≤ b → IfSome ready (λ _. 0 < a) → IfSome ready (λ _. 0 < b)
room_kept None a b more h = tt
room_kept (Some v) a b more h = omega arith

module _ {S : Type 0} (key : ℕ) (m n : HashMap Value Cells S) where
  pub stored_inserted : (v : Value) (row : Cells) (ready : Option Value) (left : Option Value) → IsPermutation ((v, row) ∷ m.entries) n.entries → IsUnique equal n → key < length row → datum_of v ≡ cell_at row key
      → IsStored key m ready → left ≡ None → IsStored key n left
  stored_inserted v row ready left h unique small own old none = record {
    keyed = inserted_keyed key v row m.entries n.entries h (cell_there row key small ∙ ap Some (sym own)) old.keyed;
    unique = unique;
    room = rw none tt;
  }

  pub stored_deleted : (v : Value) (ready : Option Value) → IsPermutation (remove_entry (equal v) m.entries) n.entries → IsUnique equal n → spare m ≤ spare n → IsStored key m ready → IsStored key n ready
  stored_deleted v ready h unique more old = record {
    keyed = deleted_keyed key v m.entries n.entries h old.keyed;
    unique = unique;
    room = room_kept ready (spare m) (spare n) more old.room;
  }

  pub stored_updated : (v : Value) (row : Cells) (ready : Option Value) → Writes m v row n → slice_get row key ≡ Some (datum_of v) → IsStored key m ready → IsStored key n ready
  stored_updated v row ready h own old = record {
    keyed = rw h.entries (keyed_updated key v row m.entries own old.keyed);
    unique = h.unique;
    room = room_kept ready (spare m) (spare n) (omega (arith, h.room)) old.room;
  }

  -- entries in another order, and no less room
  pub stored_moved : (ready : Option Value) → IsReordered equal m n → IsUnique equal n → spare m ≤ spare n → IsStored key m ready → IsStored key n ready
  stored_moved ready h unique more old = record {
    keyed = reordered_keyed key m n h old.keyed;
    unique = unique;
    room = room_kept ready (spare m) (spare n) more old.room;
  }

  pub stored_reordered : (ready now : Option Value) → IsReordered equal m n → IsUnique equal n → 0 < spare n → IsStored key m ready → IsStored key n now
  stored_reordered ready now h unique more old = record {
    keyed = reordered_keyed key m n h old.keyed;
    unique = unique;
    room = step now;
  }
    where
      step : (o : Option Value) → IfSome o (λ _. 0 < spare n)
      step None = tt
      step (Some v) = more

abbrev pub made : ℕ → ℕ → List Cells → ℕ → Option Datum → Shard
made key limit rows length room = record { key = key; limit = limit; rows = rows; length = length; room = room }

-- a shard with other rows and other room
pub shard_is : (key limit length : ℕ) (rows rows' : List Cells) (room room' : Option Datum) → rows ≡ rows' → room ≡ room'
    → made key limit rows length room ≡ made key limit rows' length room'
shard_is key limit length rows rows' room room' e f = cc
