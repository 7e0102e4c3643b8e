-- What an event does to the world, and its reply.
use Rattle.std.specs.Prelude.{ℕ, zero, suc, ◌==◌, Bool, true, false, ◌&&◌, nat_le, cond, List, [], ◌∷◌, ◌++◌, map, length, Option, Some, None, is_some, slice_get, slice_set}
use Rattle.std.specs.List.{list_all, range_with_len}
use Rattle.row.specs.Cells.{Datum, shard}
use Rattle.row.specs.declared.refused.Refused.{Refused}
use Rattle.row.specs.declared.refused.Refused.TheVariants.{Stopped, UnknownPlace, Behind}
use Rattle.plan.specs.Layouts.{Layout, table_at, table_named, view_named}
use Rattle.plan.specs.declared.domain.DomainId.{DomainId}
use Rattle.plan.specs.declared.domain.DomainId.TheVariants as domain
use Rattle.model.specs.Logs.{Change, key_of}
use Rattle.model.specs.Places.{base_at, table_of, shard_of, sources, source_at}
use Rattle.model.specs.Queries.{Line, answer}
use Rattle.model.specs.Histories.{Author, Lengths, view_shard, len_at}
use Rattle.model.specs.Refusals.{write_refusal, read_refusal, view_refusal, stage_refusal}
use Rattle.partial.specs.States.{is_filled}
use Rattle.packet.specs.Readers.{readers}
use Rattle.packet.specs.Messages.{Ask, BasePacketView, Sent, Mark}
use Rattle.protocol.specs.Bases.{Base, Verdict}
use Rattle.protocol.specs.Bases as base
use Rattle.protocol.specs.BaseSteps as on_base
use Rattle.protocol.specs.Stages as stage
use Rattle.protocol.specs.StageSteps as on_stage
use Rattle.protocol.specs.Views as view
use Rattle.protocol.specs.ViewSteps as on_view
use Rattle.protocol.specs.Worlds.{Node, Fence, Caller, World}
use Rattle.protocol.specs.Events.{Event, write, try_read, want, fence, count, deliver, evict_stage, evict_view, stop, settle, Reply, accepted, refused, hit, miss, wanted, fence_sent, asked, delivered, idle, fenced, evicted, stopped, settled, unsettled}
use Rattle.protocol.specs.Edges.{pushed, queue, with_queue, reader_place, source_place, place_or, Wire, to_stage_from, to_view_from, to_stage_back, to_base_back, pairs, wires, is_there, wire_of}

-- the world after an event, and the reply
pub record Did : Type 0 where
  pub world : World
  pub reply : Reply

-- it stays, with this reply
abbrev pub says : World → Reply → Did
says w reply = record { world = w; reply = reply }

-- ---- a domain has done something: it is as it is then, and what it puts out goes last on its edges
-- domain i is this, and runs
abbrev pub runs_on : {X : Type 0} → ℕ → X → List (Node X) → List (Node X)
runs_on i x nodes = slice_set nodes i (record { is = x; runs = true })

-- the packets of a source go on its edges; a base shard that is no source has none
abbrev pub base_sent : Option ℕ → List (List BasePacketView) → List (List (List BasePacketView)) → List (List (List BasePacketView))
base_sent None sent queues = queues
base_sent (Some j) sent queues = pushed j sent queues

-- base shard b has done this
abbrev pub base_did : World → ℕ → base.Done → World
base_did w b d = record w { bases = runs_on b d.base w.bases; to_stage = base_sent (source_place w.plan b) d.sent w.to_stage }

-- stage shard s
abbrev pub stage_did : World → ℕ → stage.Done → World
stage_did w s d = record w { stages = runs_on s d.stage w.stages; to_view = pushed s d.sent w.to_view; to_base = pushed s d.requests w.to_base }

-- view shard r
abbrev pub view_did : World → ℕ → view.Done → World
view_did w r d = record w { views = runs_on r d.view w.views; from_view = pushed r d.requests w.from_view }

-- session se is this
abbrev pub with_caller : World → ℕ → Caller → World
with_caller w se c = record w { callers = slice_set w.callers se c }

-- base shard b takes a message: one that has stopped does nothing
abbrev pub base_takes : World → ℕ → Option (Node Base) → base.ToBase → World
base_takes w b None m = w
base_takes w b (Some node) m = cond node.runs (base_did w b (on_base.step node.is m)) w

-- so does stage shard s
abbrev pub stage_takes : World → ℕ → Option (Node stage.Stage) → stage.ToStage → World
stage_takes w s None m = w
stage_takes w s (Some node) m = cond node.runs (stage_did w s (on_stage.step node.is m)) w

-- ---- fences
-- the lengths of a cut
abbrev pub lengths_of : List Line → Lengths
lengths_of cut = map (λ line. map length line) cut

-- one more than the place of the session's last entry among these, which begin at place i
abbrev pub after_own : ℕ → ℕ → ℕ → List Author → ℕ
after_own se found i [] = found
after_own se found i (a ∷ rest) = after_own se (cond (a.session == se) (suc i) found) (suc i) rest

-- in a base shard's log
abbrev pub own_in : ℕ → Option (Node Base) → ℕ
own_in se None = 0
own_in se (Some node) = after_own se 0 0 node.is.authors

-- for stage shard s the cut holds each write to source j that the session has had accepted
abbrev pub holds_own : World → ℕ → Lengths → ℕ → ℕ → Bool
holds_own w se cut s j = nat_le (own_in se (slice_get w.bases (source_at w.plan j))) (len_at cut s j)

-- it does so for all of them
abbrev pub covers : World → ℕ → Lengths → Bool
covers w se cut = list_all (λ b. b) (pairs (holds_own w se cut) w.plan.stages (length (sources w.plan)))

-- the greater of two numbers
abbrev pub greater : ℕ → ℕ → ℕ
greater a b = cond (nat_le a b) b a

-- the greater of two cuts, length by length
abbrev pub greatest : Layout → Lengths → Lengths → Lengths
greatest p c d = map (λ s. map (λ j. greater (len_at c s j) (len_at d s j)) (range_with_len 0 (length (sources p)))) (range_with_len 0 p.stages)

-- each floor raised by the cut of its view shard
abbrev pub raised : Layout → List Lengths → List (Option Lengths) → List Lengths
raised p [] acks = []
raised p (f ∷ floors) [] = f ∷ floors
raised p (f ∷ floors) (None ∷ acks) = f ∷ raised p floors acks
raised p (f ∷ floors) (Some cut ∷ acks) = greatest p f cut ∷ raised p floors acks

-- a view shard has acknowledged with a cut that holds them
abbrev pub is_covered : World → ℕ → Option Lengths → Bool
is_covered w se None = false
is_covered w se (Some cut) = covers w se cut

-- the fence is over: it has ended, or a cut lacks a write of the session, and then the floors stay
abbrev pub fence_over : World → ℕ → Caller → List (Option Lengths) → Did
fence_over w se c acks =
    cond (list_all (is_covered w se) acks)
    (says (with_caller w se (record c { floors = raised w.plan c.floors acks; fence = None })) (fenced se))
    (says (with_caller w se (record c { fence = None })) (refused Behind))

-- these view shards have acknowledged: the last acknowledgement ends the fence
abbrev pub fence_told : World → ℕ → Caller → ℕ → List (Option Lengths) → Did
fence_told w se c number acks =
    cond (list_all is_some acks)
    (fence_over w se c acks)
    (says (with_caller w se (record c { fence = Some (record { number = number; acks = acks }) })) delivered)

-- view shard r acknowledges the session's fence of this number: one that is not open is past
abbrev pub ack_of : World → ℕ → Caller → Option Fence → ℕ → ℕ → Lengths → Did
ack_of w se c None number r cut = says w delivered
ack_of w se c (Some f) number r cut = cond (f.number == number) (fence_told w se c number (slice_set f.acks r (Some cut))) (says w delivered)

-- to the session, if there is one
abbrev pub ack_from : World → ℕ → Option Caller → ℕ → ℕ → Lengths → Did
ack_from w se None number r cut = says w delivered
ack_from w se (Some c) number r cut = ack_of w se c c.fence number r cut

-- what a view shard acknowledges: a packet completes at most one marker
abbrev pub acked : World → ℕ → List Mark → Lengths → Did
acked w r [] cut = says w delivered
acked w r (m ∷ ms) cut = ack_from w m.session (slice_get w.callers m.session) m.number r cut

-- view shard r takes a message
abbrev pub view_takes : World → ℕ → Option (Node view.View) → view.ToView → Did
view_takes w r None m = says w delivered
view_takes w r (Some node) m =
    cond node.runs
    (let d = on_view.step node.is m in acked (view_did w r d) r d.acks (lengths_of d.view.cut))
    (says w delivered)

-- ---- deliveries: the first message is taken off the edge
-- a packet of source j to stage shard s
abbrev pub base_came : World → ℕ → ℕ → List BasePacketView → Did
base_came w j s [] = says w idle
base_came w j s (k ∷ ks) =
    let v : World = record w { to_stage = with_queue w.to_stage s j ks } in
    says (stage_takes v s (slice_get v.stages s) (stage.packet j k)) delivered

-- of stage shard s to view shard r
abbrev pub stage_came : World → ℕ → ℕ → List Sent → Did
stage_came w s r [] = says w idle
stage_came w s r (x ∷ xs) =
    let v : World = record w { to_view = with_queue w.to_view r s xs } in
    view_takes v r (slice_get v.views r) (view.packet s x)

-- a request of view shard r to stage shard s
abbrev pub ask_came : World → ℕ → ℕ → List Ask → Did
ask_came w r s [] = says w idle
ask_came w r s (a ∷ asks) =
    let v : World = record w { from_view = with_queue w.from_view s r asks } in
    says (stage_takes v s (slice_get v.stages s) (stage.request a)) delivered

-- of stage shard s to source j
abbrev pub base_ask_came : World → ℕ → ℕ → List Ask → Did
base_ask_came w s j [] = says w idle
base_ask_came w s j (a ∷ asks) =
    let v : World = record w { to_base = with_queue w.to_base j s asks } in
    says (base_takes v (source_at v.plan j) (slice_get v.bases (source_at v.plan j)) (base.request s a)) delivered

-- the next message of an edge
abbrev pub delivery : World → Wire → Did
delivery w (to_stage_from j s) = base_came w j s (queue w.to_stage s j)
delivery w (to_view_from s r) = stage_came w s r (queue w.to_view r s)
delivery w (to_stage_back r s) = ask_came w r s (queue w.from_view s r)
delivery w (to_base_back s j) = base_ask_came w s j (queue w.to_base j s)

-- of an edge of the plan
abbrev pub on_edge : World → Option Wire → Did
on_edge w None = says w (refused UnknownPlace)
on_edge w (Some wire) = delivery w wire

-- ---- settle: rounds over all edges, until a round finds them all empty
-- the world in a round, the sessions whose fences have ended, and whether the round found a message
pub record Round : Type 0 where
  pub world : World
  pub ended : List ℕ
  pub moved : Bool

-- the session whose fence has ended
abbrev pub ended_by : Reply → List ℕ
ended_by (fenced s) = s ∷ []
ended_by other = []

-- the edge was empty
abbrev pub is_idle : Reply → Bool
is_idle idle = true
is_idle other = false

-- one delivery of each edge, in order
abbrev pub round : Round → List Wire → Round
round r [] = r
round r (wire ∷ rest) =
    let d = delivery r.world wire in
    round (record { world = d.world; ended = r.ended ++ ended_by d.reply; moved = cond (is_idle d.reply) r.moved true }) rest

-- at most so many rounds; the last one finds all edges empty
abbrev pub rounds : ℕ → World → List ℕ → Did
rounds zero w ended = says w (unsettled ended)
rounds (suc n) w ended =
    let r = round (record { world = w; ended = ended; moved = false }) (wires w.plan) in
    cond r.moved (rounds n r.world r.ended) (says r.world (settled r.ended))

-- the most rounds of one settle
abbrev pub most_rounds : ℕ
most_rounds = 1000

-- ---- what runs
-- all of these run
abbrev pub all_run : {X : Type 0} → List (Node X) → Bool
all_run nodes = list_all (λ n. n.runs) nodes

-- it is there and runs
abbrev pub is_up : {X : Type 0} → Option (Node X) → Bool
is_up None = false
is_up (Some n) = n.runs

-- all sources and all stage shards run
abbrev pub lower_run : World → Bool
lower_run w = all_run w.stages && list_all (λ b. is_up (slice_get w.bases b)) (sources w.plan)

-- ---- writes: by the session, then by the arguments, then by the base shard
-- the reply of base shard b (one to a number that rises is never None)
abbrev pub verdict_of : Layout → ℕ → Option Verdict → Reply
verdict_of p b None = refused UnknownPlace
verdict_of p b (Some (base.accepted i)) = accepted (table_of p b) (shard_of p b) i
verdict_of p b (Some (base.declined r)) = refused r

-- base shard b decides, if it runs
abbrev pub written : World → ℕ → ℕ → Change → ℕ → Option (Node Base) → Did
written w se number e b None = says w (refused UnknownPlace)
written w se number e b (Some node) =
    cond node.runs
    (let d = on_base.step node.is (base.write se number e) in says (base_did w b d) (verdict_of w.plan b d.reply))
    (says w (refused Stopped))

-- the base shard of table t that has the entry's key
abbrev pub base_for : Layout → ℕ → Change → ℕ
base_for p t e = base_at p t (shard (key_of (table_at p t).key e) (table_at p t).shards)

-- the arguments are refused, or they name a table
abbrev pub write_in : World → ℕ → ℕ → Option ℕ → Change → Option Refused → Did
write_in w se number table e (Some r) = says w (refused r)
write_in w se number None e None = says w (refused UnknownPlace)
write_in w se number (Some t) e None = let b = base_for w.plan t e in written w se number e b (slice_get w.bases b)

-- the session has called once more: each write and each fence takes a number, also where it is refused
abbrev pub numbered : World → ℕ → Caller → World
numbered w se c = with_caller w se (record c { number = suc c.number })

-- a write of a session
abbrev pub write_by : World → ℕ → Option Caller → List ℕ → Change → Did
write_by w se None table e = says w (refused UnknownPlace)
write_by w se (Some c) table e = let t = table_named w.plan table in write_in (numbered w se c) se c.number t e (write_refusal w.plan t e)

-- ---- reads
-- the place of the view shard that has key k of view i
abbrev pub reader_of : Layout → ℕ → Datum → ℕ
reader_of p i k = place_or (reader_place p i (view_shard p i k))

-- a hit is the answer over the shard's cut, which is then the session's floor there
abbrev pub looked : World → ℕ → Caller → ℕ → Datum → ℕ → Option (Node view.View) → Did
looked w se c i k r None = says w miss
looked w se c i k r (Some node) =
    let lengths = lengths_of node.is.cut in
    cond (is_filled (node.is.keys.at k))
    (says (with_caller w se (record c { floors = slice_set c.floors r lengths })) (hit (answer w.plan node.is.cut i k) lengths))
    (says w miss)

-- the arguments are refused, or they name a view
abbrev pub try_in : World → ℕ → Caller → Option ℕ → Datum → Option Refused → Did
try_in w se c view k (Some r) = says w (refused r)
try_in w se c None k None = says w miss
try_in w se c (Some i) k None = let r = reader_of w.plan i k in looked w se c i k r (slice_get w.views r)

-- a try of a session
abbrev pub try_by : World → ℕ → Option Caller → List ℕ → Datum → Did
try_by w se None view k = says w (refused UnknownPlace)
try_by w se (Some c) view k = let i = view_named w.plan view in try_in w se c i k (read_refusal w.plan i k)

-- a shown key is left; any other is wanted of the view shard, where all that is needed runs
abbrev pub wanted_at : World → Datum → ℕ → Option (Node view.View) → Did
wanted_at w k r None = says w wanted
wanted_at w k r (Some node) =
    cond (is_filled (node.is.keys.at k))
    (says w wanted)
    (cond (node.runs && lower_run w) (says (view_takes w r (Some node) (view.want k)).world wanted) (says w (refused Stopped)))

-- the arguments are refused, or they name a view
abbrev pub want_in : World → Option ℕ → Datum → Option Refused → Did
want_in w view k (Some r) = says w (refused r)
want_in w None k None = says w wanted
want_in w (Some i) k None = let r = reader_of w.plan i k in wanted_at w k r (slice_get w.views r)

-- a want of a session
abbrev pub want_by : World → Option Caller → List ℕ → Datum → Did
want_by w None view k = says w (refused UnknownPlace)
want_by w (Some c) view k = let i = view_named w.plan view in want_in w i k (read_refusal w.plan i k)

-- how many requests a shard of view i has sent
abbrev pub asked_of : ℕ → Node view.View → ℕ
asked_of i n = cond (n.is.view == i) n.is.asked 0

-- all of its shards
abbrev pub asked_all : ℕ → List (Node view.View) → ℕ
asked_all i [] = 0
asked_all i (n ∷ ns) = on_view.counted (asked_of i n) (asked_all i ns)

-- the arguments are refused, or they name a view
abbrev pub count_in : World → Option ℕ → Option Refused → Did
count_in w view (Some r) = says w (refused r)
count_in w None None = says w (asked 0)
count_in w (Some i) None = says w (asked (asked_all i w.views))

-- a count of a session
abbrev pub count_by : World → Option Caller → List ℕ → Did
count_by w None view = says w (refused UnknownPlace)
count_by w (Some c) view = let i = view_named w.plan view in count_in w i (view_refusal i)

-- ---- fences of sessions
-- the marker goes to these base shards, one after the other
abbrev pub marked : World → List ℕ → Mark → World
marked w [] m = w
marked w (b ∷ bs) m = marked (base_takes w b (slice_get w.bases b) (base.marker m)) bs m

-- an open fence that nobody has acknowledged
abbrev pub open_fence : Layout → ℕ → Fence
open_fence p number = record { number = number; acks = map (λ r. None) (readers p) }

-- the session has called once more, and has this fence open; its marker is on its way
abbrev pub sends_fence : World → ℕ → Caller → World
sends_fence w se c =
    let v = with_caller w se (record c { number = suc c.number; fence = Some (open_fence w.plan c.number) }) in
    marked v (sources w.plan) (record { session = se; number = c.number })

-- a fence of a session, where all that is needed runs: it takes the place of an open one
abbrev pub fence_by : World → ℕ → Option Caller → Did
fence_by w se None = says w (refused UnknownPlace)
fence_by w se (Some c) =
    cond (lower_run w && all_run w.views) (says (sends_fence w se c) fence_sent) (says (numbered w se c) (refused Stopped))

-- ---- orders and stops
-- stage shard s is to evict a stage key, if it runs
abbrev pub stage_order : World → Datum → ℕ → Option (Node stage.Stage) → Did
stage_order w k s None = says w (refused UnknownPlace)
stage_order w k s (Some node) = cond node.runs (says (stage_takes w s (Some node) (stage.order k)) evicted) (says w (refused Stopped))

-- the stage shard that has the key
abbrev pub evict_stage_in : World → Datum → Option Refused → Did
evict_stage_in w k (Some r) = says w (refused r)
evict_stage_in w k None = let s = shard k w.plan.stages in stage_order w k s (slice_get w.stages s)

-- view shard r is to evict a key, if it runs
abbrev pub view_order : World → Datum → ℕ → Option (Node view.View) → Did
view_order w k r None = says w (refused UnknownPlace)
view_order w k r (Some node) = cond node.runs (says (view_takes w r (Some node) (view.order k)).world evicted) (says w (refused Stopped))

-- the view shard that has the key
abbrev pub evict_view_in : World → Option ℕ → Datum → Option Refused → Did
evict_view_in w view k (Some r) = says w (refused r)
evict_view_in w None k None = says w (refused UnknownPlace)
evict_view_in w (Some i) k None = let r = reader_of w.plan i k in view_order w k r (slice_get w.views r)

-- it runs no more
abbrev pub off : {X : Type 0} → Node X → Node X
off n = record n { runs = false }

-- domain i, if it is there, runs no more
abbrev pub off_at : {X : Type 0} → ℕ → Option (Node X) → List (Node X) → List (Node X)
off_at i None nodes = nodes
off_at i (Some n) nodes = slice_set nodes i (off n)

-- a domain of the plan stops
abbrev pub stops : World → DomainId → World
stops w (domain.Base t n) = let b = base_at w.plan t n in record w { bases = off_at b (slice_get w.bases b) w.bases }
stops w (domain.Stage s) = record w { stages = off_at s (slice_get w.stages s) w.stages }
stops w (domain.View i j) = let r = place_or (reader_place w.plan i j) in record w { views = off_at r (slice_get w.views r) w.views }

-- a domain that the plan has
abbrev pub stop_at : World → Option DomainId → Did
stop_at w None = says w (refused UnknownPlace)
stop_at w (Some d) = cond (is_there w.plan d) (says (stops w d) stopped) (says w (refused UnknownPlace))

-- ---- one event
abbrev pub step : World → Event → Did
step w (write se table e) = write_by w se (slice_get w.callers se) table e
step w (try_read se view k) = try_by w se (slice_get w.callers se) view k
step w (want se view k) = want_by w (slice_get w.callers se) view k
step w (fence se) = fence_by w se (slice_get w.callers se)
step w (count se view) = count_by w (slice_get w.callers se) view
step w (deliver edge) = on_edge w (wire_of w.plan edge)
step w (evict_stage k) = evict_stage_in w k (stage_refusal w.plan k)
step w (evict_view view k) = let i = view_named w.plan view in evict_view_in w i k (read_refusal w.plan i k)
step w (stop d) = stop_at w d
step w settle = rounds most_rounds w []

-- the replies to a schedule
abbrev pub replies : World → List Event → List Reply
replies w [] = []
replies w (e ∷ es) = let d = step w e in d.reply ∷ replies d.world es
