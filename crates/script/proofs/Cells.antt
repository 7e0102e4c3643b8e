-- Words that are read by their columns.
use Rattle.std.proofs.Common.{◌≡◌, ℕ, suc, ◌+◌, List, [], ◌∷◌, ◌++◌, length, refl, ap, sym, subst, ◌∙◌, arith}
use Rattle.row.specs.Cells.{Datum, Cells}
use Rattle.plan.specs.declared.kinds.Kind.{Kind}
use Rattle.script.specs.Values.{IsRead}
use Rattle.script.specs.Columns.{AreCells}
use Rattle.script.proofs.Numbers.{read_once}

-- one word more
pub cells_more : (kinds : ℕ → Kind) (column at : ℕ) (words : List (List ℕ)) (row : Cells) (word : List ℕ) (cell : Datum) → at ≡ column + length words → AreCells kinds column words row → IsRead (kinds at) word cell → AreCells kinds column (words ++ word ∷ []) (row ++ cell ∷ [])
cells_more kinds column at [] row word cell here are is =
    let same : at ≡ column = omega arith in
    (cell, [], subst (λ k. IsRead (kinds k) word cell) same is, refl, ap (λ r. r ++ cell ∷ []) are)
cells_more kinds column at (w ∷ ws) row word cell here are is =
    let next : at ≡ suc column + length ws = omega arith in
    (are.0, are.1 ++ cell ∷ [], are.2, cells_more kinds (suc column) at ws are.1 word cell next are.3 is, ap (λ r. r ++ cell ∷ []) are.4)

-- words are one row
pub cells_once : (kinds : ℕ → Kind) (column : ℕ) (words : List (List ℕ)) (a b : Cells) → AreCells kinds column words a → AreCells kinds column words b → a ≡ b
cells_once kinds column [] a b x y = x ∙ sym y
cells_once kinds column (w ∷ ws) a b x y =
    let first : x.0 ≡ y.0 = read_once (kinds column) w x.0 y.0 x.2 y.2 in
    let rest : x.1 ≡ y.1 = cells_once kinds (suc column) ws x.1 y.1 x.3 y.3 in
    x.4 ∙ (ap (λ d. d ∷ x.1) first ∙ (ap (λ r. y.0 ∷ r) rest ∙ sym y.4))
