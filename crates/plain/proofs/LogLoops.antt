-- Logs along a list of items.
use Rattle.std.proofs.Common.{◌≡◌, ℕ, ◌+◌, ◌<◌, List, [], ◌∷◌, ◌++◌, flat_map, length, take, get_or, refl, sym, ◌∙◌, append-nil}
use Rattle.std.proofs.lemmas.List.{take_more, map-append}
use Rattle.std.proofs.lemmas.List.Concat.{flat_map-append}
use Rattle.std.proofs.lemmas.List.Folds.{flat_map-map}
use Rattle.plain.proofs.Loops.{flat_more}
use Rattle.plan.specs.Layouts.{Layout}
use Rattle.model.specs.Logs.{Change}
use Rattle.model.specs.Histories.{Lengths, entry_in, log_of, Author, author_in, authors_of, floor_in, floor_of, last_or}
use Rattle.model.specs.Items.{item_of, history_of}
use Rattle.model.specs.declared.item.Item.{Item}

-- the next item goes to the end
pub log_more : (b : ℕ) (items : List Item) (i : ℕ) (x : Item) (out es : List Change) → i < length items → x ≡ get_or items i x → es ≡ entry_in b (item_of x)
    → out ≡ log_of b (history_of (take i items)) → out ++ es ≡ log_of b (history_of (take (i + 1) items))
log_more b items i x out es lt is own before =
    flat_more (λ y. entry_in b (item_of y)) items i x out es lt is own (before ∙ flat_map-map (entry_in b) item_of (take i items)) ∙ sym (flat_map-map (entry_in b) item_of (take (i + 1) items))

pub authors_more : (b : ℕ) (items : List Item) (i : ℕ) (x : Item) (out es : List Author) → i < length items → x ≡ get_or items i x → es ≡ author_in b (item_of x)
    → out ≡ authors_of b (history_of (take i items)) → out ++ es ≡ authors_of b (history_of (take (i + 1) items))
authors_more b items i x out es lt is own before =
    flat_more (λ y. author_in b (item_of y)) items i x out es lt is own (before ∙ flat_map-map (author_in b) item_of (take i items)) ∙ sym (flat_map-map (author_in b) item_of (take (i + 1) items))

last_append : {A : Type 0} (d : A) (xs ys : List A) → last_or d (xs ++ ys) ≡ last_or (last_or d xs) ys
last_append d [] ys = refl
last_append d (x ∷ xs) ys = last_append x xs ys

-- the next item may give another floor
pub floor_more : (p : Layout) (me v j : ℕ) (items : List Item) (i : ℕ) (x : Item) (floor : Lengths) → i < length items → x ≡ get_or items i x → floor ≡ floor_of p me v j (history_of (take i items))
    → last_or floor (floor_in p me v j (item_of x)) ≡ floor_of p me v j (history_of (take (i + 1) items))
floor_more p me v j items i x floor lt is before =
    let xs = history_of (take i items) in
    rw (take_more items i x lt, ← is, map-append item_of (take i items) (x ∷ []), flat_map-append (floor_in p me v j) xs (item_of x ∷ []), append-nil (floor_in p me v j (item_of x)), last_append [] (flat_map (floor_in p me v j) xs) (floor_in p me v j (item_of x)), before) refl
