-- Loops that build a list from the first elements of another one.
use Rattle.std.specs.List.{list_all}
use Rattle.std.proofs.Common.{◌≡◌, ℕ, ◌+◌, ◌<◌, Bool, List, [], ◌∷◌, ◌++◌, map, flat_map, length, take, get_or, refl, ap, sym, append-nil}
use Rattle.std.proofs.lemmas.List.{take_more, map-append}
use Rattle.std.proofs.lemmas.List.Concat.{flat_map-append}
use Rattle.row.specs.Cells.{Cells}
use Rattle.model.specs.Logs.{changed, rows_of}
use Rattle.model.specs.Entries.{change_of}
use Rattle.model.specs.declared.entry.Entry.{Entry}
use Rattle.model.proofs.LogLaws.{rows_of-push}

-- the next element goes to the end
pub mapped_more : {X Y : Type 0} (f : X → Y) (xs : List X) (i : ℕ) (x : X) (y : Y) (out : List Y) → i < length xs → x ≡ get_or xs i x → y ≡ f x → out ≡ map f (take i xs) → out ++ y ∷ [] ≡ map f (take (i + 1) xs)
mapped_more f xs i x y out small is at before = rw (take_more xs i x small, ← is, map-append f (take i xs) (x ∷ []), before, at) refl

pub flat_more : {X Y : Type 0} (f : X → List Y) (xs : List X) (i : ℕ) (x : X) (out ys : List Y) → i < length xs → x ≡ get_or xs i x → ys ≡ f x → out ≡ flat_map f (take i xs) → out ++ ys ≡ flat_map f (take (i + 1) xs)
flat_more f xs i x out ys small is at before = rw (take_more xs i x small, ← is, flat_map-append f (take i xs) (x ∷ []), before, at) (ap (λ t. flat_map f (take i xs) ++ t) (sym (append-nil (f x))))

-- the next entry changes the rows
pub rows_more : (key : ℕ) (es : List Entry) (i : ℕ) (e : Entry) (rows : List Cells) → i < length es → e ≡ get_or es i e → rows ≡ rows_of key (map change_of (take i es))
    → changed key rows (change_of e) ≡ rows_of key (map change_of (take (i + 1) es))
rows_more key es i e rows small is before =
    rw (take_more es i e small, ← is, map-append change_of (take i es) (e ∷ []), before) (sym (rows_of-push key (map change_of (take i es)) (change_of e)))

pub list_all-map : {X Y : Type 0} (p : Y → Bool) (f : X → Y) (xs : List X) → list_all p (map f xs) ≡ list_all (λ x. p (f x)) xs
list_all-map p f [] = refl
list_all-map p f (x ∷ xs) = rw (list_all-map p f xs) refl
