-- An entry that fits its table has its key.
use Rattle.std.proofs.Common.{◌≡◌, ◌<◌, true, length, sym, subst}
use Rattle.plan.specs.Layouts.{TableLayout}
use Rattle.model.specs.Logs.{Change, inserts, deletes, updates, fits}
use Rattle.plan.proofs.RowCells.{row_length}
use Rattle.base.specs.Shards.{HasKey}

pub fits_key : (t : TableLayout) (e : Change) → t.key < length t.columns → fits t e ≡ true → HasKey t.key e
fits_key t (inserts row) small h = subst (λ n. t.key < n) (sym (row_length t.columns row h)) small
fits_key t (deletes k) small h = tt
fits_key t (updates row) small h = subst (λ n. t.key < n) (sym (row_length t.columns row h)) small
