-- The rows of a front with one more entry.
use Rattle.std.proofs.Common.{◌≡◌, ℕ, List, [], ◌∷◌, ◌++◌, refl}
use Rattle.row.specs.Cells.{Cells}
use Rattle.model.specs.Logs.{Change, changed, rows_after, rows_of}

pub rows_after-push : (key : ℕ) (rows : List Cells) (front : List Change) (e : Change) → rows_after key rows (front ++ e ∷ []) ≡ changed key (rows_after key rows front) e
rows_after-push key rows [] e = refl
rows_after-push key rows (c ∷ cs) e = rows_after-push key (changed key rows c) cs e

pub rows_of-push : (key : ℕ) (front : List Change) (e : Change) → rows_of key (front ++ e ∷ []) ≡ changed key (rows_of key front) e
rows_of-push key front e = rows_after-push key [] front e
