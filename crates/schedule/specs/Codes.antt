-- The program's events, replies and places as data.
use Rattle.std.specs.Prelude.{string_bytes}
use Rattle.row.specs.Cells.{datum_of}
use Rattle.plan.specs.Layouts.{Layout}
use Rattle.plan.specs.declared.domain.DomainId.{DomainId}
use Rattle.plan.specs.declared.domain.DomainId.TheVariants as domain
use Rattle.model.specs.Entries.{change_of}
use Rattle.model.specs.Places.{base_at}
use Rattle.packet.specs.Readers.{Reader}
use Rattle.packet.specs.declared.reader.Reader.{Reader as ReaderCode}
use Rattle.protocol.specs.Edges.{Wire, to_stage_from, to_view_from, to_stage_back, to_base_back, place_or, reader_place}
use Rattle.protocol.specs.Events as event
use Rattle.protocol.specs.Events.{Event, Reply}
use Rattle.schedule.specs.declared.event.Event.{Event as EventCode}
use Rattle.schedule.specs.declared.event.Event.TheVariants as code
use Rattle.schedule.specs.declared.event.Reply.{Reply as ReplyCode}
use Rattle.schedule.specs.declared.event.Reply.TheVariants as said
use Rattle.schedule.specs.declared.wire.Wire.{Wire as WireCode}
use Rattle.schedule.specs.declared.wire.Wire.TheVariants as wire
use Rattle.schedule.specs.declared.wire.Spot.{Spot}
use Rattle.schedule.specs.declared.wire.Spot.TheVariants as spot

-- an event
abbrev pub event_of : EventCode → Event
event_of (code.Write session table entry) = event.write session (string_bytes table) (change_of entry)
event_of (code.Try session view key) = event.try_read session (string_bytes view) (datum_of key)
event_of (code.Want session view key) = event.want session (string_bytes view) (datum_of key)
event_of (code.Fence session) = event.fence session
event_of (code.Count session view) = event.count session (string_bytes view)
event_of (code.Deliver edge) = event.deliver edge
event_of (code.EvictStage key) = event.evict_stage (datum_of key)
event_of (code.EvictView view key) = event.evict_view (string_bytes view) (datum_of key)
event_of (code.Stop d) = event.stop d
event_of code.Settle = event.settle

-- a reply
abbrev pub reply_of : ReplyCode → Reply
reply_of (said.Accepted table shard index) = event.accepted table shard index
reply_of (said.Refused r) = event.refused r
reply_of (said.Hit rows cut) = event.hit rows.items cut
reply_of said.Miss = event.miss
reply_of said.Wanted = event.wanted
reply_of said.FenceSent = event.fence_sent
reply_of (said.Asked n) = event.asked n
reply_of said.Delivered = event.delivered
reply_of said.Idle = event.idle
reply_of (said.Fenced session) = event.fenced session
reply_of said.Evicted = event.evicted
reply_of said.Stopped = event.stopped
reply_of (said.Settled sessions) = event.settled sessions.items
reply_of (said.Unsettled sessions) = event.unsettled sessions.items

-- an edge
abbrev pub wire_in : WireCode → Wire
wire_in (wire.FromSource source stage) = to_stage_from source stage
wire_in (wire.FromStage stage reader) = to_view_from stage reader
wire_in (wire.AskStage reader stage) = to_stage_back reader stage
wire_in (wire.AskSource stage source) = to_base_back stage source

-- a shard of a view
abbrev pub reader_in : ReaderCode → Reader
reader_in r = record { view = r.view; shard = r.shard }

-- where a domain stands
abbrev pub spot_of : Layout → DomainId → Spot
spot_of p (domain.Base t n) = spot.Base (base_at p t n)
spot_of p (domain.Stage n) = spot.Stage n
spot_of p (domain.View i j) = spot.View (place_or (reader_place p i j))
