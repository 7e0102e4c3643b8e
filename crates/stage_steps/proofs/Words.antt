-- Values among others.
use Rattle.std.proofs.Common.{◌≡◌, ℕ, Bool, true, false, cond, not, ◌&&◌, List, [], ◌∷◌, map, filter, refl, ap}
use Rattle.std.specs.List.{list_any}
use Rattle.row.specs.Cells.{Datum, cell_at, datum_of, has_shard}
use Rattle.row.specs.declared.record.Record.{Record}
use Rattle.row.specs.declared.value.Value.{Value}
use Rattle.row.specs.Groups.{equal}
use Rattle.row.proofs.Cellwise.{eq-value_is}
use Rattle.packet.specs.Keys.{is_among}
use Rattle.packet.specs.Messages.{KeyedRecord}
use Rattle.packet.specs.Truth.{records_for}
use Rattle.stage_steps.specs.Told.{keyed_for, told_changes}

pub among_is : (xs : List Value) (x : Value) → list_any (λ y. equal y x) xs ≡ is_among (map datum_of xs) (datum_of x)
among_is [] x = refl
among_is (y ∷ ys) x = rw (eq-value_is y x, among_is ys x) refl

-- one record more
module _ (c n j : ℕ) (evicts : List Datum) where
  abbrev pub told_by : Record → Bool
  told_by r = has_shard c n j r.row && not (is_among evicts (cell_at r.row c))

  abbrev pub keyed_by : Record → KeyedRecord
  keyed_by r = record { key = cell_at r.row c; change = r }

  pub told_are : (records : List Record) → told_changes evicts (keyed_for c n j records) ≡ map keyed_by (filter told_by records)
  told_are [] = refl
  told_are (r ∷ rs) = step (has_shard c n j r.row) (told_are rs)
    where
      inner : (b : Bool) → told_changes evicts (keyed_for c n j rs) ≡ map keyed_by (filter told_by rs)
          → cond (not b) (keyed_by r ∷ told_changes evicts (keyed_for c n j rs)) (told_changes evicts (keyed_for c n j rs)) ≡ map keyed_by (cond (not b) (r ∷ filter told_by rs) (filter told_by rs))
      inner true e = e
      inner false e = ap (λ l. keyed_by r ∷ l) e

      step : (a : Bool) → told_changes evicts (keyed_for c n j rs) ≡ map keyed_by (filter told_by rs)
          → told_changes evicts (map keyed_by (cond a (r ∷ records_for c n j rs) (records_for c n j rs))) ≡ map keyed_by (cond (a && not (is_among evicts (cell_at r.row c))) (r ∷ filter told_by rs) (filter told_by rs))
      step false e = e
      step true e = inner (is_among evicts (cell_at r.row c)) e
