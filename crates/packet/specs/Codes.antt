-- The program's messages as data.
use Rattle.std.specs.Prelude.{◌≡◌, ℕ, List, [], ◌∷◌, map, take, Option, Some, None}
use Rattle.std.specs.Option.{option_map}
use Rattle.row.specs.Cells.{datum_of}
use Rattle.row.specs.declared.record.Record.{Record}
use Rattle.model.specs.Fronts.{LogView}
use Rattle.packet.specs.Lines.{entries_of, fronts_to, plan_of}
use Rattle.packet.specs.Messages.{Mark, Piece, BasePacketView, StagePacketView}
use Rattle.packet.specs.declared.reader.Reader.{Reader}
use Rattle.packet.specs.declared.request.Marker.{Marker}
use Rattle.packet.specs.declared.stage_packet.Content.{Content}

-- a marker
abbrev pub mark_of : Marker → Mark
mark_of m = record { session = m.session; number = m.number }

-- perhaps one
abbrev pub mark_in : Option Marker → Option Mark
mark_in = option_map mark_of

-- none or one
abbrev pub marks_in : Option Marker → List Mark
marks_in None = []
marks_in (Some m) = mark_of m ∷ []

-- the packet to stage shard s that starts at so many entries and ends at a front that says this
abbrev pub packet_of : ℕ → ℕ → LogView → List Record → Option Piece → Option Mark → BasePacketView
packet_of s from to changes piece m =
    record { plan = to.plan; base = to.base; stage = s; from = take from to.entries; to = to.entries; changes = changes; piece = piece; marker = m }

-- the packet ends where a front stands that says this
pub record EndsAt (x : BasePacketView) (to : LogView) : Type 0 where
  pub plan : to.plan ≡ x.plan
  pub base : to.base ≡ x.base
  pub entries : to.entries ≡ x.to

-- the packet of stage shard s to a view shard that starts at so many entries of each source, ends at a line that says this, and carries this
abbrev pub stage_packet_of : ℕ → Reader → List ℕ → List LogView → Content → StagePacketView
stage_packet_of s r from to c =
    record { plan = plan_of to; stage = s; view = r.view; shard = r.shard; from = fronts_to from (entries_of to); to = entries_of to; changes = c.changes.items; evicts = map datum_of c.evicts.items; piece = c.piece; marker = mark_in c.marker }
