-- What a view shard tells its shown copy of keys.
use Rattle.std.specs.Prelude.{◌≡◌, List, [], ◌∷◌, Option, Some, None, if◌then◌else◌}
use Rattle.row.specs.Cells.{Datum, Cells}
use Rattle.row.specs.Groups.{equal}
use Rattle.row.specs.declared.value.Value.{Value}
use Rattle.partial.specs.States.{Kept, state_of, entry_of}
use Rattle.partial.specs.declared.partial.Evicted.{Evicted}
use Rattle.partial.specs.declared.partial.Evicted.TheVariants as said
use Rattle.view_domain.specs.declared.shown.KeyChange.{KeyChange}
use Rattle.view_domain.specs.declared.shown.KeyChange.TheVariants.{Fills, Goes}

-- the key that the change is of
abbrev pub key_in : KeyChange → Value
key_in (Fills key rows) = key
key_in (Goes key) = key

-- what is shown of it after the change
abbrev pub turned : KeyChange → Option (List Cells) → Option (List Cells)
turned (Fills key rows) shown = Some rows
turned (Goes key) shown = None

-- what is shown of a key after the changes, one after the other
abbrev pub shown_after : List KeyChange → Value → Option (List Cells) → Option (List Cells)
shown_after [] key shown = shown
shown_after (c ∷ cs) key shown = shown_after cs key (if equal (key_in c) key then turned c shown else shown)

-- the rows of a key that is filled are told
abbrev pub told_of : Value → Option (List Cells) → List KeyChange
told_of key None = []
told_of key (Some rows) = Fills key rows ∷ []

-- a filled key that an eviction has made a hole goes
abbrev pub gone_by : Evicted → Value → List KeyChange
gone_by said.Nothing key = []
gone_by said.Piece key = []
gone_by said.Entry key = Goes key ∷ []

-- and a piece that it has dropped is asked for again
abbrev pub asked_by : Evicted → Datum → List Datum
asked_by said.Nothing k = []
asked_by said.Piece k = k ∷ []
asked_by said.Entry k = []

-- the rows of a key, where it is filled
abbrev pub rows_at : Kept Value (List Cells) → Value → Option (List Cells)
rows_at kept key = entry_of (state_of equal kept key)

-- from what was shown first of each key the changes lead to what is filled
pub record LeadsTo (first : Value → Option (List Cells)) (changes : List KeyChange) (kept : Kept Value (List Cells)) : Type 0 where
  pub each : (key : Value) → rows_at kept key ≡ shown_after changes key (first key)
