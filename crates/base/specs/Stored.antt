-- How a base shard stores its rows. No public clause cites it.
use Rattle.std.specs.Prelude.{◌≡◌, ℕ, ◌<◌, All, List, Option, Some, IfSome, slice_get}
use Rattle.std.specs.HashMap.{HashMap, IsUnique, spare, values}
use Rattle.std.specs.Option.{option_map}
use Rattle.row.specs.Bags.{sorted}
use Rattle.row.specs.Cells.{Cells, datum_of, row_cmp}
use Rattle.row.specs.declared.value.Value.{Value}
use Rattle.row.specs.Groups.{equal}
use Rattle.base.specs.Shards.{Shard}

-- what is stored, as callers see it
abbrev pub stored : {S : Type 0} → ℕ → ℕ → ℕ → HashMap Value Cells S → Option Value → Shard
stored key limit count rows ready = record { key = key; limit = limit; rows = sorted row_cmp (values rows); length = count; room = option_map datum_of ready }

-- the row has its key in the key column
abbrev pub IsKeyed : ℕ → Value × Cells → Type 0
IsKeyed key entry = slice_get entry.1 key ≡ Some (datum_of entry.0)

-- so does each row
abbrev pub AreKeyed : ℕ → List (Value × Cells) → Type 0
AreKeyed key entries = All (IsKeyed key) entries

-- each row is under its own key, no two keys are equal, and there is a place for the key that is ready
pub record IsStored {S : Type 0} (key : ℕ) (rows : HashMap Value Cells S) (ready : Option Value) : Type 0 where
  pub keyed : AreKeyed key rows.entries
  pub unique : IsUnique equal rows
  pub room : IfSome ready (λ _. 0 < spare rows)
