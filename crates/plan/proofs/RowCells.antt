-- What the cells of a table's row are.
use Rattle.std.proofs.Common.{◌≡◌, ℕ, zero, suc, ◌<◌, true, List, [], ◌∷◌, length, slice_index_or, refl, ap, arith}
use Rattle.row.specs.Cells.{Cells, Datum, int, text, cell_at}
use Rattle.row.specs.Numbers.{number_of, is_small}
use Rattle.plan.specs.Layouts.{ColumnLayout, no_column}
use Rattle.plan.specs.Kinds.{is_cell, is_row}
use Rattle.plan.specs.declared.kinds.Kind.{Kind}
use Rattle.plan.specs.declared.kinds.Kind.TheVariants as kind
use Rattle.plan.proofs.Both.{and_left, and_right}

-- a number has 64 bits
cell_small : (k : Kind) (v : Datum) → k ≡ kind.Int → is_cell k v ≡ true → is_small (number_of v) ≡ true
cell_small kind.Int (int x) e h = h
cell_small kind.Int (text t) e h = absurd cc
cell_small kind.Text v e h = absurd cc

-- so what the row has in a column of numbers
pub row_small : (cs : List ColumnLayout) (r : Cells) (c : ℕ) → is_row cs r ≡ true → c < length cs → (slice_index_or cs c no_column).kind ≡ kind.Int → is_small (number_of (cell_at r c)) ≡ true
row_small [] r c h lt e = absurd (omega arith)
row_small (k ∷ cs) [] c h lt e = absurd cc
row_small (k ∷ cs) (v ∷ r) zero h lt e = cell_small k.kind v e (and_left (is_cell k.kind v) (is_row cs r) h)
row_small (k ∷ cs) (v ∷ r) (suc c) h lt e = row_small cs r c (and_right (is_cell k.kind v) (is_row cs r) h) (omega arith) e

-- it has as many cells as the table has columns
pub row_length : (cs : List ColumnLayout) (row : Cells) → is_row cs row ≡ true → length row ≡ length cs
row_length [] [] h = refl
row_length [] (v ∷ vs) h = cc
row_length (c ∷ cs) [] h = cc
row_length (c ∷ cs) (v ∷ vs) h = ap suc (row_length cs vs (and_right (is_cell c.kind v) (is_row cs vs) h))
