-- What a stage shard does with one message: it takes it, looks at the requests that wait, and keeps to its cap.
use Rattle.std.specs.Prelude.{ℕ, zero, suc, ◌-◌, ◌||◌, ◌==◌, not, cond, List, [], ◌∷◌, ◌++◌, map, filter, flat_map, length, Option, Some, None, slice_set}
use Rattle.std.specs.List.{list_all, range_with_len}
use Rattle.row.specs.Cells.{Datum, Cells, cell_at}
use Rattle.row.specs.declared.record.Record.{Record}
use Rattle.plan.specs.Layouts.{SideLayout, Layout}
use Rattle.plan.specs.Outputs.{pass}
use Rattle.model.specs.Places.{sources, side_count}
use Rattle.model.specs.Queries.{Line}
use Rattle.partial.specs.States.{is_hole, is_filled}
use Rattle.packet.specs.Readers.{Reader, readers, is_left, is_of, view_of, right_tag}
use Rattle.packet.specs.Messages.{Ask, BasePacketView, Sent, Mark, Piece, none_of}
use Rattle.packet.specs.Keys.{Keys, begin_at, give_at, open_at}
use Rattle.packet.specs.Marks.{come, complete, partly}
use Rattle.packet.specs.Named.{named, asked_now, for_each}
use Rattle.protocol.specs.Stages.{Stage, ToStage, packet, request, order, Done, knows, of_stage_key, behind, keys_for}

-- ---- one thing after the other
-- it puts out nothing
abbrev pub quiet : Stage → Done
quiet s = record { stage = s; sent = none_of (readers s.plan); requests = none_of (sources s.plan) }

-- what each view shard has asked for after these packets, where that is counted
abbrev pub each_asked : Option (List (List Datum)) → List (List Sent) → Option (List (List Datum))
each_asked None sent = None
each_asked (Some asked) sent = Some (asked_now asked sent)

-- it puts out these packets, each to its view shard
abbrev pub says : Stage → List (List Sent) → Done
says s sent = record { stage = record s { asked = each_asked s.asked sent }; sent = sent; requests = none_of (sources s.plan) }

-- to each view shard what f makes of the keys that it has asked for
abbrev pub put : Stage → (Option (List Datum) → Reader → List Sent) → Done
put s f = says s (for_each f s.asked (readers s.plan))

-- to each receiver the first, then the second
abbrev pub append_each : {X : Type 0} → List (List X) → List (List X) → List (List X)
append_each [] yss = yss
append_each (xs ∷ xss) [] = xs ∷ xss
append_each (xs ∷ xss) (ys ∷ yss) = (xs ++ ys) ∷ append_each xss yss

-- first the one, then what f makes of the stage shard then
abbrev pub next : Done → (Stage → Done) → Done
next d f = let e = f d.stage in record { stage = e.stage; sent = append_each d.sent e.sent; requests = append_each d.requests e.requests }

-- ---- packets
-- from a line to another, with the keys of which it can't tell
abbrev pub moved : Line → Line → List Datum → Sent
moved from to evicts = record { from = from; to = to; evicts = evicts; piece = None; marker = None }

-- the piece of a key
abbrev pub with_piece : Line → Datum → Sent
with_piece line k = record { from = line; to = line; evicts = []; piece = Some k; marker = None }

-- a marker
abbrev pub with_marker : Line → Mark → Sent
with_marker line m = record { from = line; to = line; evicts = []; piece = None; marker = Some m }

-- an eviction, where there is a key to evict
abbrev pub notice : Line → List Datum → List Sent
notice line [] = []
notice line (k ∷ ks) = moved line line (k ∷ ks) ∷ []

-- ---- it takes a message
-- the rows of the records for which the side's conditions hold
abbrev pub passing : SideLayout → List Record → List Cells
passing side records = filter (pass side.conditions) (map (λ (r : Record). r.row) records)

-- of these left rows, those whose right rows are not all here
abbrev pub unknown_lefts : Stage → List Cells → List Cells
unknown_lefts s rows = filter (λ l. not (knows s.right (cell_at l s.plan.left.key))) rows

-- the left rows that records of the right side meet where the right rows are not all here
abbrev pub unknown_rights : Stage → Option SideLayout → List Record → List Cells
unknown_rights s None records = []
unknown_rights s (Some side) records = flat_map (of_stage_key s) (filter (λ x. not (knows s.right x)) (map (λ r. cell_at r side.key) (passing side records)))

-- the left rows whose output the records of source j change in a way that can't be computed: record by record, not by net change
abbrev pub unknown : Stage → ℕ → List Record → List Cells
unknown s j records = cond (is_left s.plan j) (unknown_lefts s (passing s.plan.left records)) (unknown_rights s s.plan.right records)

-- the packet of an entry: one packet to every view shard, which evicts the keys of those left rows
abbrev pub entry_taken : Stage → ℕ → BasePacketView → Done
entry_taken s j k =
    let to = slice_set s.line j k.to in
    put (record s { line = to }) (λ asked r. moved s.line to (named asked (keys_for s.plan (unknown s j k.changes) r)) ∷ [])

-- the piece of right source j for stage key x
abbrev pub piece_given : ℕ → Datum → Option Keys → Option Keys
piece_given j x None = None
piece_given j x (Some keys) = Some (give_at j x keys)

-- a piece of a right source for the right side; any other changes nothing
abbrev pub piece_taken : Stage → ℕ → Piece → Option Keys
piece_taken s j piece = cond (is_left s.plan j || not (piece.tag == right_tag)) s.right (piece_given (j - side_count s.plan s.plan.left) piece.key s.right)

-- a marker: once it has come from every source, it goes to every view shard
abbrev pub marker_taken : Stage → ℕ → Mark → Done
marker_taken s j m =
    let marks = come (length (sources s.plan)) j m s.marks in
    put (record s { marks = partly marks }) (λ asked r. map (with_marker s.line) (complete marks))

-- a packet: by what it carries
abbrev pub packet_taken : Stage → ℕ → BasePacketView → Option Piece → Option Mark → Done
packet_taken s j k None None = entry_taken s j k
packet_taken s j k None (Some m) = marker_taken s j m
packet_taken s j k (Some piece) marker = quiet (record s { right = piece_taken s j piece })

-- a right key goes: it is a hole, and each view shard is told of its keys
abbrev pub goes : Stage → Keys → Datum → Done
goes s keys x = put (record s { right = Some (open_at x keys) }) (λ asked r. notice s.line (named asked (keys_for s.plan (of_stage_key s x) r)))

-- an order: a filled right key goes, any other stays
abbrev pub order_taken : Stage → Option Keys → Datum → Done
order_taken s None x = quiet s
order_taken s (Some keys) x = cond (is_filled (keys.at x)) (goes s keys x) (quiet s)

-- the message itself: a request waits, behind those before it
abbrev pub takes : Stage → ToStage → Done
takes s (packet j k) = packet_taken s j k k.piece k.marker
takes s (request a) = quiet (record s { pending = s.pending ++ a ∷ [] })
takes s (order x) = order_taken s s.right x

-- ---- it looks at the requests that wait
-- how many right sources there are
abbrev pub right_count : Layout → ℕ
right_count p = length (sources p) - side_count p p.left

-- those of the keys that are holes begin to wait, in order
abbrev pub begins : ℕ → List Datum → Keys → Keys
begins n [] keys = keys
begins n (x ∷ xs) keys = begins n xs (begin_at n x keys)

-- these are they
abbrev pub starts : ℕ → List Datum → Keys → List Datum
starts n [] keys = []
starts n (x ∷ xs) keys = cond (is_hole (keys.at x)) (x ∷ []) [] ++ starts n xs (begin_at n x keys)

-- the same, where the right side is by key
abbrev pub begins_of : ℕ → List Datum → Option Keys → Option Keys
begins_of n xs None = None
begins_of n xs (Some keys) = Some (begins n xs keys)

-- which they are, where the right side is by key
abbrev pub starts_of : ℕ → List Datum → Option Keys → List Datum
starts_of n xs None = []
starts_of n xs (Some keys) = starts n xs keys

-- every right source is asked for these keys
abbrev pub asks_for : Layout → List Datum → List (List Ask)
asks_for p xs = map (λ j. cond (is_left p j) [] (map (λ x. record { tag = right_tag; key = x }) xs)) (range_with_len 0 (length (sources p)))

-- the stage keys that are needed begin to wait where they are holes
abbrev pub asks : Stage → List Datum → Done
asks s needed =
    let n = right_count s.plan in
    record { stage = record s { right = begins_of n needed s.right }; sent = none_of (readers s.plan); requests = asks_for s.plan (starts_of n needed s.right) }

-- the request is answered where nothing that it needs is lacking, else it waits on
abbrev pub answered : Stage → Ask → List Datum → Done
answered s a needed =
    cond (list_all (knows s.right) needed)
    (put s (λ asked r. cond (is_of s.plan (view_of a.tag) a.key r) (with_piece s.line a.key ∷ []) []))
    (quiet (record s { pending = s.pending ++ a ∷ [] }))

-- one request
abbrev pub look : Stage → Ask → Done
look s a = let needed = behind s (view_of a.tag) a.key in next (asks s needed) (λ t. answered t a needed)

-- these requests, in order of arrival
abbrev pub look_all : List Ask → Stage → Done
look_all [] s = quiet s
look_all (a ∷ rest) s = next (look s a) (look_all rest)

-- all that wait
abbrev pub looks : Stage → Done
looks s = look_all s.pending (record s { pending = [] })

-- ---- it keeps to its cap, while no request waits
-- the key that was filled first goes
abbrev pub first_goes : Stage → Keys → List Datum → Done
first_goes s keys [] = quiet s
first_goes s keys (x ∷ xs) = goes s keys x

-- of the right side, where it is by key
abbrev pub oldest_goes : Stage → Option Keys → Done
oldest_goes s None = quiet s
oldest_goes s (Some keys) = first_goes s keys keys.order

-- so many keys go, one after the other
abbrev pub shrink : ℕ → Stage → Done
shrink zero s = quiet s
shrink (suc n) s = next (oldest_goes s s.right) (shrink n)

-- how many filled keys there are above the cap
abbrev pub excess : ℕ → Option Keys → ℕ
excess cap None = 0
excess cap (Some keys) = length keys.order - cap

-- they go, where these requests that wait are none
abbrev pub cap_kept : Stage → List Ask → Done
cap_kept s [] = shrink (excess s.plan.cap s.right) s
cap_kept s (a ∷ waiting) = quiet s

-- the cap
abbrev pub caps : Stage → Done
caps s = cap_kept s s.pending

-- ---- one message: it is taken, then the requests that wait are looked at, then the cap is kept
abbrev pub step : Stage → ToStage → Done
step s m = next (next (takes s m) looks) caps
