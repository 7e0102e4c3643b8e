-- The packets of an entry, from the records of each stage shard. No public clause cites this.
use Rattle.std.specs.Prelude.{◌≡◌, ℕ, List, [], ◌∷◌, ◌++◌, map, slice_index_or, Option, Some, None}
use Rattle.std.specs.List.{range_with_len}
use Rattle.std.specs.Option.{option_map}
use Rattle.row.specs.declared.record.Record.{Record}
use Rattle.row.specs.Changes.{Turns}
use Rattle.plan.specs.Layouts.{SideLayout}
use Rattle.model.specs.Logs.{Change, rows_of}
use Rattle.model.specs.Places.{layout_of}
use Rattle.model.specs.Fronts.{LogView}
use Rattle.base.specs.Shards.{Shard, IsAt}
use Rattle.base.specs.Records.{records_at, records_of}
use Rattle.packet.specs.Messages.{BasePacketView, none_of}
use Rattle.packet.specs.Codes.{packet_of}
use Rattle.packet.specs.Readers.{side_of}
use Rattle.packet.specs.Split.{parts_by}

-- the packet from so many entries on to the j-th of these parts
abbrev pub part_packet : LogView → ℕ → List (List Record) → ℕ → BasePacketView
part_packet to from parts j = packet_of j from to (slice_index_or parts j []) None None

-- to each of n stage shards its own, where there are parts
abbrev pub told : LogView → ℕ → Option (List (List Record)) → ℕ → List (List BasePacketView)
told to from None n = none_of (range_with_len 0 n)
told to from (Some parts) n = map (λ j. part_packet to from parts j ∷ []) (range_with_len 0 n)

-- the key column of the log's table
abbrev pub key_at : LogView → ℕ
key_at l = (layout_of l.plan l.base).key

-- the records of an entry at the log's front
abbrev pub records_in : LogView → Change → List Record
records_in l e = records_of (key_at l) (rows_of (key_at l) l.entries) e

-- and by stage shard, where the table is one of the stage
abbrev pub parts_in : LogView → Change → Option (List (List Record))
parts_in l e = option_map (λ (side : SideLayout). parts_by side.key l.plan.stages (records_in l e)) (side_of l.plan l.base)

-- they turn the rows of the log into those with the entry
abbrev pub IsTurn : LogView → Change → Type 0
IsTurn l e = Turns (rows_of (key_at l) l.entries) (records_in l e) (rows_of (key_at l) (l.entries ++ e ∷ []))

-- wherever the shard stands its records of the entry are those at that front, and turn its rows into those with the entry
abbrev pub Brings : Shard → Change → Type 0
Brings s e = (front : List Change) → IsAt s front → (records_at s e ≡ records_of s.key (rows_of s.key front) e) × Turns (rows_of s.key front) (records_at s e) (rows_of s.key (front ++ e ∷ []))
