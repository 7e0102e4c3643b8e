-- Rows that have one value in the column of a part: all are in it, or none.
use Rattle.std.proofs.Common.{◌≡◌, ◌==◌, Bool, true, false, List, [], ◌∷◌, filter, Option, Some, None, slice_get, refl, ap}
use Rattle.row.specs.Bags.{Each}
use Rattle.row.specs.Cells.{Datum, Cells, has, passes, same, shard}
use Rattle.row.proofs.Shards.{same_is}
use Rattle.base.specs.declared.part.Part.{Part}
use Rattle.base.specs.Parts.{is_in}

module _ (part : Part) (v : Datum) where
  -- the value is of the part
  abbrev pub takes : Bool
  takes = shard v part.shards == part.shard

  -- so a row is in the part just where the value is
  in_by : (row : Cells) → has part.column v row ≡ true → is_in part row ≡ takes
  in_by row h = step (slice_get row part.column) h
    where
      step : (o : Option Datum) → passes (λ x. same x v) o ≡ true → passes (λ x. shard x part.shards == part.shard) o ≡ takes
      step None e = absurd cc
      step (Some x) e = ap (λ d. shard d part.shards == part.shard) (same_is x v e)

  -- where the value is of the part, all are in it
  pub all_in : (rows : List Cells) → Each (λ r. has part.column v r ≡ true) rows → takes ≡ true → rows ≡ filter (is_in part) rows
  all_in [] h e = refl
  all_in (row ∷ rows) h e = rw (in_by row h.0, e) (ap (λ t. row ∷ t) (all_in rows h.1 e))

  -- where it is of another, none is
  pub none_in : (rows : List Cells) → Each (λ r. has part.column v r ≡ true) rows → takes ≡ false → [] ≡ filter (is_in part) rows
  none_in [] h e = refl
  none_in (row ∷ rows) h e = rw (in_by row h.0, e) (none_in rows h.1 e)
