-- What a base shard does with one message, where no memory is refused and its word has not moved.
use Rattle.std.specs.Prelude.{ℕ, cond, nat_lt, List, [], ◌∷◌, ◌++◌, map, length, Option, Some, None}
use Rattle.std.specs.List.{range_with_len}
use Rattle.row.specs.declared.record.Record.{Record}
use Rattle.row.specs.declared.refused.Refused.{Refused}
use Rattle.plan.specs.Layouts.{SideLayout, Layout}
use Rattle.model.specs.Logs.{Change, rows_of}
use Rattle.model.specs.Places.{layout_of}
use Rattle.model.specs.Legal.{limit}
use Rattle.model.specs.Refusals.{refusal}
use Rattle.base.specs.Records.{records_of}
use Rattle.packet.specs.Readers.{side_of}
use Rattle.packet.specs.Messages.{Ask, Piece, BasePacketView, Mark, none_of, to_one}
use Rattle.packet.specs.Truth.{base_piece, records_for}
use Rattle.protocol.specs.Bases.{Base, ToBase, write, request, marker, Verdict, accepted, declined, Done, next_of}

-- it stays, answers this, and sends nothing
abbrev pub quiet : Base → Option Verdict → Done
quiet b reply = record { base = b; reply = reply; sent = none_of (range_with_len 0 b.plan.stages) }

-- a packet that moves no front
abbrev pub still : Base → ℕ → Option Piece → Option Mark → BasePacketView
still b s piece m = record { plan = b.plan; base = b.base; stage = s; from = b.entries; to = b.entries; changes = []; piece = piece; marker = m }

-- one to every stage shard, if the table is one of the stage
abbrev pub to_stages : Layout → Option SideLayout → (SideLayout → ℕ → BasePacketView) → List (List BasePacketView)
to_stages p None f = none_of (range_with_len 0 p.stages)
to_stages p (Some side) f = map (λ s. f side s ∷ []) (range_with_len 0 p.stages)

-- the records of the entry that belong to stage shard s
abbrev pub changes_for : Base → Change → SideLayout → ℕ → List Record
changes_for b e side s = let key = (layout_of b.plan b.base).key in records_for side.key b.plan.stages s (records_of key (rows_of key b.entries) e)

-- the packet of the entry to stage shard s
abbrev pub entry_packet : Base → Change → SideLayout → ℕ → BasePacketView
entry_packet b e side s = record (still b s None None) { to = b.entries ++ e ∷ []; changes = changes_for b e side s }

-- the log with the entry at its end, under the session and the number
abbrev pub with_entry : Base → ℕ → ℕ → Change → Base
with_entry b s m e = record b { entries = b.entries ++ e ∷ []; authors = b.authors ++ record { session = s; number = m } ∷ [] }

-- the entry is accepted at the old length, and every stage shard gets one packet
abbrev pub appended : Base → ℕ → ℕ → Change → Done
appended b s m e = record {
  base = with_entry b s m e;
  reply = Some (accepted (length b.entries));
  sent = to_stages b.plan (side_of b.plan b.base) (entry_packet b e);
}

-- accepted, where the log does not refuse it
abbrev pub decided : Base → ℕ → ℕ → Change → Option Refused → Done
decided b s m e None = appended b s m e
decided b s m e (Some r) = quiet b (Some (declined r))

-- the rows of the key that it asks for, of the stage shard that asks
abbrev pub piece_for : Base → ℕ → Ask → Piece
piece_for b s a = record { tag = a.tag; key = a.key; rows = base_piece b.plan b.base s b.entries a.tag a.key }

-- one message: a write whose number does not rise changes nothing and has no answer; a request is answered to the one who asks; a marker goes to every stage shard
abbrev pub step : Base → ToBase → Done
step b (write s m e) = cond (nat_lt m (next_of s b.authors)) (quiet b None) (decided b s m e (refusal (layout_of b.plan b.base).key limit b.entries e))
step b (request s a) = record { base = b; reply = None; sent = to_one b.plan.stages s (still b s (Some (piece_for b s a)) None ∷ []) }
step b (marker m) = record { base = b; reply = None; sent = to_stages b.plan (side_of b.plan b.base) (λ side s. still b s None (Some m)) }
