-- The records of a packet by key.
use Rattle.std.specs.Prelude.{◌≡◌, ◌<◌, List, [], ◌∷◌, length}
use Rattle.row.specs.Bags.{Each}
use Rattle.row.specs.Cells.{Datum}
use Rattle.packet.specs.Groups.{KeyedRecords}
use Rattle.packet.specs.Messages.{KeyedRecord}
use Rattle.view_domain.specs.declared.parts.Parted.{Parted}
use Rattle.view_domain.specs.declared.parts.Parted.TheVariants as code

-- the keys with their records
abbrev pub groups_of : Parted → KeyedRecords
groups_of (code.One key records) = (key, records) ∷ []
groups_of (code.All groups) = groups

-- there are some, and each is of the key
pub record AreOf (key : Datum) (changes : List KeyedRecord) : Type 0 where
  pub some : 0 < length changes
  pub each : Each (λ (c : KeyedRecord). c.key ≡ key) changes
