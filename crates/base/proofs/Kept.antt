-- The rows of a shard, with a row more or less, as bags.
use Rattle.std.proofs.Common.{◌≡◌, ◌+◌, Bool, true, false, cond, List, [], ◌∷◌, Option, Some, None, IfSome, Result, Ok, Err, IfOk, OnErr, IsPermutation, refl, ap, sym, ◌∙◌, arith}
use Rattle.std.specs.Map.{values_of, lookup, remove_entry, set_value}
use Rattle.std.specs.HashMap.{HashMap, IsReordered, values}
use Rattle.std.proofs.lemmas.List.Sorted.{IsPermutation-map}
use Rattle.row.specs.Cells.{Cells, row_cmp}
use Rattle.row.specs.Bags.{one, times, IsAlike}
use Rattle.row.specs.Groups.{equal}
use Rattle.row.specs.declared.value.Value.{Value}
use Rattle.base.proofs.Orders.{permuted_alike}

pub if_some : {A : Type 0} {P Q : A → Type 0} (o : Option A) → ((x : A) → P x → Q x) → IfSome o P → IfSome o Q
if_some None f h = tt
if_some (Some x) f h = f x h

pub if_ok : {A E : Type 0} {P Q : A → Type 0} (r : Result A E) → ((v : A) → P v → Q v) → IfOk r P → IfOk r Q
if_ok (Ok v) f h = f v h
if_ok (Err e) f h = tt

pub on_err : {A E : Type 0} {P : Type 0} (r : Result A E) → P → OnErr r P
on_err (Ok v) h = tt
on_err (Err e) h = h

-- the rows of entries in another order
entries_alike : (es fs : List (Value × Cells)) → IsPermutation es fs → IsAlike row_cmp (values_of es) (values_of fs)
entries_alike es fs h = permuted_alike row_cmp (values_of es) (values_of fs) (IsPermutation-map (λ e. e.1) es fs h)

pub reordered_alike : {S : Type 0} (m n : HashMap Value Cells S) → IsReordered equal m n → IsAlike row_cmp (values m) (values n)
reordered_alike m n h = entries_alike m.entries n.entries h.0

-- a row more
pub inserted_alike : (v : Value) (row : Cells) (es fs : List (Value × Cells)) → IsPermutation ((v, row) ∷ es) fs → IsAlike row_cmp (row ∷ values_of es) (values_of fs)
inserted_alike v row es fs h = entries_alike ((v, row) ∷ es) fs h

-- a row less
without_one : (test : Value → Bool) (row : Cells) (es : List (Value × Cells)) → lookup test es ≡ Some row → IsAlike row_cmp (values_of es) (row ∷ values_of (remove_entry test es))
without_one test row [] h = absurd cc
without_one test row (e ∷ es) h = step (test e.0) h (without_one test row es)
  where
    step : (b : Bool) → cond b (Some e.1) (lookup test es) ≡ Some row → (lookup test es ≡ Some row → IsAlike row_cmp (values_of es) (row ∷ values_of (remove_entry test es)))
        → IsAlike row_cmp (e.1 ∷ values_of es) (row ∷ values_of (cond b es (e ∷ remove_entry test es)))
    step true k rest =
        let is : e.1 ≡ row = cc in
        record { each = λ z. ap (λ r. one row_cmp z r + times row_cmp z (values_of es)) is }
    step false k rest =
        let below = rest k in
        record { each = λ z. omega (arith, below.each z) }

pub removed_alike : (test : Value → Bool) (row : Cells) (es fs : List (Value × Cells)) → lookup test es ≡ Some row → IsPermutation (remove_entry test es) fs → IsAlike row_cmp (values_of es) (row ∷ values_of fs)
removed_alike test row es fs h k =
    let one_less = without_one test row es h in
    let moved = entries_alike (remove_entry test es) fs k in
    record { each = λ z. one_less.each z ∙ ap (λ n. one row_cmp z row + n) (moved.each z) }

-- no row less
without_none : (test : Value → Bool) (es : List (Value × Cells)) → lookup test es ≡ None → remove_entry test es ≡ es
without_none test [] h = refl
without_none test (e ∷ es) h = step (test e.0) h (without_none test es)
  where
    step : (b : Bool) → cond b (Some e.1) (lookup test es) ≡ None → (lookup test es ≡ None → remove_entry test es ≡ es) → cond b es (e ∷ remove_entry test es) ≡ e ∷ es
    step true k rest = absurd cc
    step false k rest = ap (λ t. e ∷ t) (rest k)

pub kept_alike : (test : Value → Bool) (es fs : List (Value × Cells)) → lookup test es ≡ None → IsPermutation (remove_entry test es) fs → IsAlike row_cmp (values_of es) (values_of fs)
kept_alike test es fs h k =
    let moved = entries_alike (remove_entry test es) fs k in
    record { each = λ z. ap (λ l. times row_cmp z (values_of l)) (sym (without_none test es h)) ∙ moved.each z }

-- a row in the place of another
pub updated_alike : (test : Value → Bool) (old row : Cells) (es : List (Value × Cells)) → lookup test es ≡ Some old → IsAlike row_cmp (row ∷ values_of es) (old ∷ values_of (set_value test es row))
updated_alike test old row [] h = absurd cc
updated_alike test old row (e ∷ es) h = step (test e.0) h (updated_alike test old row es)
  where
    step : (b : Bool) → cond b (Some e.1) (lookup test es) ≡ Some old → (lookup test es ≡ Some old → IsAlike row_cmp (row ∷ values_of es) (old ∷ values_of (set_value test es row)))
        → IsAlike row_cmp (row ∷ e.1 ∷ values_of es) (old ∷ values_of (cond b ((e.0, row) ∷ es) (e ∷ set_value test es row)))
    step true k rest =
        let is : e.1 ≡ old = cc in
        record { each = λ z. ap (λ r. one row_cmp z row + (one row_cmp z r + times row_cmp z (values_of es))) is ∙ omega arith }
    step false k rest =
        let below = rest k in
        record { each = λ z. omega (arith, below.each z) }
