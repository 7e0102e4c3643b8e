-- What the map's entries become, as data.
use Rattle.std.proofs.Common.{◌≡◌, Bool, true, false, cond, not, List, [], ◌∷◌, ◌++◌, fold, Option, Some, None, refl, ap, sym, ◌∙◌}
use Rattle.std.proofs.lemmas.Map.Keys.{IsDistinct-head, IsDistinct-tail}
use Rattle.std.specs.List.{IsDistinct, AllByRecursion}
use Rattle.std.specs.Map.{lookup, lookup_entry, keys_of, remove_entry}
use Rattle.std.specs.Option.{option_map_or}
use Rattle.linked_map.specs.LinkedMap.{put_entries}
use Rattle.row.specs.Cells.{Cells, datum_of, same}
use Rattle.row.specs.Groups.{equal}
use Rattle.row.specs.declared.value.Value.{Value}
use Rattle.row.proofs.Cellwise.{eq-value_is}
use Rattle.row.proofs.Keys.{equal_is, value_equivalence}
use Rattle.shown.specs.Snapshots.{rows_in, shown_at, without}

abbrev Entries : Type 0
Entries = List (Value × List Cells)

-- no key is the given one
abbrev IsNone : Value → Entries → Type 0
IsNone k es = AllByRecursion (λ y. equal k y ≡ false) (keys_of es)

others : (k : Value) (e : Value × List Cells) (es : Entries) → IsDistinct equal (keys_of (e ∷ es)) → equal k e.0 ≡ true → IsNone k es
others k e es d t = by es (IsDistinct-head equal e.0 (keys_of es) d)
  where
    by : (es : Entries) → AllByRecursion (λ y. equal e.0 y ≡ false) (keys_of es) → IsNone k es
    by [] a = tt
    by (y ∷ es) a = (value_equivalence.congr k e.0 y.0 t ∙ a.0, by es a.1)

pub found_in : (k : Value) (es : Entries) → lookup (equal k) es ≡ shown_at (rows_in es) (datum_of k)
found_in k [] = refl
found_in k (e ∷ es) =
    ap (λ b. cond b (Some e.1) (lookup (equal k) es)) (eq-value_is k e.0)
    ∙ ap (λ o. cond (same (datum_of k) (datum_of e.0)) (Some e.1) o) (found_in k es)

without_none : (k : Value) (es : Entries) → IsNone k es → without (datum_of k) (rows_in es) ≡ rows_in es
without_none k [] a = refl
without_none k (e ∷ es) a =
    ap (λ b. cond (not b) ((datum_of e.0, e.1) ∷ without (datum_of k) (rows_in es)) (without (datum_of k) (rows_in es))) (sym (eq-value_is k e.0) ∙ a.0)
    ∙ ap (λ l. (datum_of e.0, e.1) ∷ l) (without_none k es a.1)

pub removed_in : (k : Value) (es : Entries) → IsDistinct equal (keys_of es) → rows_in (remove_entry (equal k) es) ≡ without (datum_of k) (rows_in es)
removed_in k [] d = refl
removed_in k (e ∷ es) d = step (equal k e.0) refl (removed_in k es (IsDistinct-tail equal e.0 (keys_of es) d))
    ∙ ap (λ b. cond (not b) ((datum_of e.0, e.1) ∷ without (datum_of k) (rows_in es)) (without (datum_of k) (rows_in es))) (eq-value_is k e.0)
  where
    step : (b : Bool) → equal k e.0 ≡ b → rows_in (remove_entry (equal k) es) ≡ without (datum_of k) (rows_in es)
        → rows_in (cond b es (e ∷ remove_entry (equal k) es)) ≡ cond (not b) ((datum_of e.0, e.1) ∷ without (datum_of k) (rows_in es)) (without (datum_of k) (rows_in es))
    step true t rest = sym (without_none k es (others k e es d t))
    step false t rest = ap (λ l. (datum_of e.0, e.1) ∷ l) rest

-- a key that is not there, and the one that is there
no_entry : (k : Value) (es : Entries) → lookup_entry (equal k) es ≡ None → IsNone k es
no_entry k [] n = tt
no_entry k (e ∷ es) n = step (equal k e.0) refl n (no_entry k es)
  where
    step : (b : Bool) → equal k e.0 ≡ b → cond b (Some e) (lookup_entry (equal k) es) ≡ None → (lookup_entry (equal k) es ≡ None → IsNone k es) → (equal k e.0 ≡ false) × IsNone k es
    step true t n rest = cc
    step false t n rest = (t, rest n)

one_entry : (k : Value) (p : Value × List Cells) (es : Entries) → lookup_entry (equal k) es ≡ Some p → datum_of p.0 ≡ datum_of k
one_entry k p [] h = cc
one_entry k p (e ∷ es) h = step (equal k e.0) refl h (one_entry k p es)
  where
    step : (b : Bool) → equal k e.0 ≡ b → cond b (Some e) (lookup_entry (equal k) es) ≡ Some p → (lookup_entry (equal k) es ≡ Some p → datum_of p.0 ≡ datum_of k) → datum_of p.0 ≡ datum_of k
    step true t h rest = ap (λ o. datum_of (option_map_or (λ q. q.0) o k)) (sym h) ∙ sym (equal_is k e.0 t)
    step false t h rest = rest h

pub put_in : (es : Entries) (k : Value) (v : List Cells) → IsDistinct equal (keys_of es) → rows_in (put_entries equal es k v) ≡ (datum_of k, v) ∷ without (datum_of k) (rows_in es)
put_in es k v d = step (lookup_entry (equal k) es) refl
  where
    step : (o : Option (Value × List Cells)) → lookup_entry (equal k) es ≡ o
        → rows_in (option_map_or (λ e. (e.0, v) ∷ remove_entry (equal k) es) o ((k, v) ∷ es)) ≡ (datum_of k, v) ∷ without (datum_of k) (rows_in es)
    step None n = ap (λ l. (datum_of k, v) ∷ l) (sym (without_none k es (no_entry k es n)))
    step (Some p) h = ap (λ x. (x, v) ∷ rows_in (remove_entry (equal k) es)) (one_entry k p es h) ∙ ap (λ l. (datum_of k, v) ∷ l) (removed_in k es d)

pub fold_more : {X Y : Type 0} (f : X → Y → X) (x : X) (ys : List Y) (y : Y) → fold f x (ys ++ y ∷ []) ≡ f (fold f x ys) y
fold_more f x [] y = refl
fold_more f x (z ∷ ys) y = fold_more f (f x z) ys y
