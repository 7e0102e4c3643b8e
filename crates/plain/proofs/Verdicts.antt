-- The first item that is not allowed, and legal histories with one more item.
use Rattle.std.proofs.Common.{◌≡◌, ℕ, zero, suc, ◌+◌, ◌<◌, Bool, true, false, List, [], ◌∷◌, ◌++◌, take, length, get_or, slice_get, Some, refl, arith, sym, subst, append_assoc, append-nil}
use Rattle.std.specs.Bool.{Decides}
use Rattle.std.specs.declared.cmp.Ordering.{Ordering}
use Rattle.std.specs.declared.cmp.Ordering.TheVariants.{Less, Equal, Greater}
use Rattle.std.specs.Ordering.{eq_by_cmp, is_eq}
use Rattle.std.proofs.lemmas.List.{take_more, take-map, map-append}
use Rattle.row.specs.Cells.{Cells, row_cmp}
use Rattle.row.specs.CellOrder.{row_same, row_equivalence}
use Rattle.plan.specs.Layouts.{Layout}
use Rattle.model.specs.Histories.{Item as HistoryItem}
use Rattle.model.specs.Legal.{Allows, IsLegalAfter, IsLegal}
use Rattle.model.proofs.Growth.{legal_more}
use Rattle.model.specs.Items.{item_of, history_of}
use Rattle.plain.specs.Tells.{Tells}
use Rattle.plain.specs.Verdicts.{IsIllegal}
use Rattle.model.specs.declared.item.Item.{Item}

pub tells_of : (b : Bool) (P : Type 0) → Decides b P → Tells b P
tells_of true P d = d.0 refl
tells_of false P d = λ x. let e = d.1 x in cc

equal_of : (o : Ordering) → is_eq o ≡ true → o ≡ Equal
equal_of Less e = absurd cc
equal_of Equal e = refl
equal_of Greater e = absurd cc

pub row_decides : (a b : Cells) → Decides (eq_by_cmp row_cmp a b) (a ≡ b)
row_decides a b = (λ t. row_same a b (equal_of (row_cmp a b) t), λ e. subst (λ (y : Cells). eq_by_cmp row_cmp a y ≡ true) e (row_equivalence.refl a))

-- ---- histories
-- an item that is allowed goes to the end
pub legal_push : (p : Layout) (n : ℕ) (items : List Item) (i : ℕ) (x : Item) → i < length items → x ≡ get_or items i x → IsLegal p n (history_of (take i items)) → Allows p n (history_of (take i items)) (item_of x)
    → IsLegal p n (history_of (take (i + 1) items))
legal_push p n items i x lt is legal a =
    rw (take_more items i x lt, ← is, map-append item_of (take i items) (x ∷ [])) (legal_more p n [] (history_of (take i items)) (item_of x) legal a)

-- each item of a legal history is allowed by those before it
allowed_at : (p : Layout) (n : ℕ) (past h : List HistoryItem) (i : ℕ) (x : HistoryItem) → IsLegalAfter p n past h → slice_get h i ≡ Some x → Allows p n (past ++ take i h) x
allowed_at p n past [] i x legal at = absurd cc
allowed_at p n past (y ∷ h) zero x legal at =
    let one : y ≡ x = cc at in
    subst (λ (l : List HistoryItem). Allows p n l x) (sym (append-nil past)) (subst (λ (z : HistoryItem). Allows p n past z) one legal.0)
allowed_at p n past (y ∷ h) (suc i) x legal at =
    subst (λ (l : List HistoryItem). Allows p n l x) (append_assoc past (y ∷ []) (take i h)) (allowed_at p n (past ++ y ∷ []) h i x legal.1 at)

get_mapped : (items : List Item) (i : ℕ) (x : Item) → i < length items → x ≡ get_or items i x → slice_get (history_of items) i ≡ Some (item_of x)
get_mapped [] i x lt is = absurd (omega arith)
get_mapped (y ∷ items) zero x lt is = cc
get_mapped (y ∷ items) (suc i) x lt is = get_mapped items i x (omega arith) is

-- the first item that is not allowed
pub first_fault : (p : Layout) (n : ℕ) (items : List Item) (i : ℕ) (x : Item) → i < length items → x ≡ get_or items i x → IsLegal p n (history_of (take i items))
    → (Allows p n (history_of (take i items)) (item_of x) → ⊥) → IsIllegal p n (history_of items) i
first_fault p n items i x lt is legal broken =
    let same = take-map item_of i items in
    let at = get_mapped items i x lt is in
    let broken' : Allows p n (take i (history_of items)) (item_of x) → ⊥ = subst (λ (l : List HistoryItem). Allows p n l (item_of x) → ⊥) (sym same) broken in
    record {
      before = subst (λ (l : List HistoryItem). IsLegal p n l) (sym same) legal;
      item = item_of x;
      stands = at;
      broken = broken';
      illegal = λ whole. broken' (allowed_at p n [] (history_of items) i (item_of x) whole at);
    }
