-- A stage shard of stories and votes, message by message.
use Rattle.std.proofs.Common.{◌≡◌, ℕ, List, [], ◌∷◌, ◌++◌, map, refl, Option, Some, None, codes}
use Rattle.row.specs.Cells.{Datum, Cells}
use Rattle.row.specs.declared.record.Record.{Record}
use Rattle.plan.specs.Layouts.{Layout}
use Rattle.plan.specs.Recipes.{side, view, table, number}
use Rattle.plan.proofs.SamplePlans.{votes_small}
use Rattle.plan.specs.declared.kinds.Op.TheVariants as op
use Rattle.model.specs.Logs.{Change, inserts, deletes, updates}
use Rattle.model.specs.Queries.{Line}
use Rattle.model.proofs.Samples.{n}
use Rattle.base.specs.Records.{plus_of, minus_of}
use Rattle.packet.specs.Messages.{Ask, Sent, Mark}
use Rattle.packet.specs.Keys.{Keys, no_keys}
use Rattle.protocol.specs.Stages.{Stage, ToStage, packet, request, order, Done}
use Rattle.protocol.specs.StageSteps.{step}

abbrev pub story : ℕ → ℕ → Cells
story i a = n i ∷ n a ∷ []

abbrev pub vote : ℕ → ℕ → Cells
vote v s = n v ∷ n s ∷ []

-- ---- messages of the two sources
abbrev pub of_stories : List Change → List Change → List Record → ToStage
of_stories from to changes = packet 0 (record { plan = votes_small; base = 0; stage = 1; from = from; to = to; changes = changes; piece = None; marker = None })

abbrev pub of_votes : List Change → List Change → List Record → ToStage
of_votes from to changes = packet 1 (record { plan = votes_small; base = 1; stage = 1; from = from; to = to; changes = changes; piece = None; marker = None })

-- the piece of a tag for a key, of source j over an empty log
abbrev pub piece : ℕ → ℕ → ℕ → ToStage
piece j tag k = packet j (record { plan = votes_small; base = j; stage = 1; from = []; to = []; changes = []; piece = Some (record { tag = tag; key = n k; rows = [] }); marker = None })

abbrev pub mark : ℕ → Mark
mark m = record { session = 0; number = m }

abbrev pub marks : ℕ → ℕ → ToStage
marks j m = packet j (record { plan = votes_small; base = j; stage = 1; from = []; to = []; changes = []; piece = None; marker = Some (mark m) })

abbrev pub asks : ℕ → ℕ → ToStage
asks tag k = request (record { tag = tag; key = n k })

-- ---- logs
abbrev pub one : List Change
one = inserts (story 1 7) ∷ []

abbrev pub two : List Change
two = inserts (story 1 7) ∷ inserts (story 3 7) ∷ []

abbrev pub three : List Change
three = inserts (story 1 7) ∷ inserts (story 3 7) ∷ inserts (story 5 7) ∷ []

-- ---- runs
-- stage shard 1 at these fronts, with no right key filled
abbrev pub at_line : Layout → Line → Stage
at_line p line = record { plan = p; shard = 1; line = line; right = Some no_keys; pending = []; asked = None; marks = [] }

abbrev pub at_stories : List Change → Stage
at_stories entries = at_line votes_small (entries ∷ [] ∷ [])

abbrev pub runs : Stage → List ToStage → List Done
runs s [] = []
runs s (m ∷ ms) = let d = step s m in d ∷ runs d.stage ms

abbrev pub packets : List Done → List (List (List Sent))
packets ds = map (λ (d : Done). d.sent) ds

abbrev pub requests : List Done → List (List (List Ask))
requests ds = map (λ (d : Done). d.requests) ds

-- the keys that each packet evicts, to each view shard
abbrev pub evictions : List Done → List (List (List (List Datum)))
evictions ds = map (λ (d : Done). map (λ ps. map (λ (p : Sent). p.evicts) ps) d.sent) ds

abbrev pub from_to : Line → Line → List Datum → Sent
from_to f g evicts = record { from = f; to = g; evicts = evicts; piece = None; marker = None }

abbrev pub carries : Line → ℕ → Sent
carries f k = record { from = f; to = f; evicts = []; piece = Some (n k); marker = None }

abbrev pub brings : Line → ℕ → Sent
brings f m = record { from = f; to = f; evicts = []; piece = None; marker = Some (mark m) }

abbrev pub ask : ℕ → Ask
ask k = record { tag = 0; key = n k }

-- ---- keys that are counted as asked for, or not
abbrev pub messages : List ToStage
messages =
    of_stories [] one (plus_of (story 1 7) ∷ [])
    ∷ asks 1 7
    ∷ piece 1 0 1
    ∷ of_stories one two (plus_of (story 3 7) ∷ [])
    ∷ of_stories two three (plus_of (story 5 7) ∷ [])
    ∷ []

-- counted, an eviction names a key that was asked for, and it is then no longer
pub in_silence : packets (runs (record (at_stories []) { asked = Some ([] ∷ []) }) messages) ≡
    ((from_to ([] ∷ [] ∷ []) (one ∷ [] ∷ []) [] ∷ []) ∷ [])
    ∷ ([] ∷ [])
    ∷ ((carries (one ∷ [] ∷ []) 7 ∷ []) ∷ [])
    ∷ ((from_to (one ∷ [] ∷ []) (two ∷ [] ∷ []) (n 7 ∷ []) ∷ []) ∷ [])
    ∷ ((from_to (two ∷ [] ∷ []) (three ∷ [] ∷ []) [] ∷ []) ∷ [])
    ∷ []
in_silence = refl

-- one request, to the votes
pub one_request : requests (runs (record (at_stories []) { asked = Some ([] ∷ []) }) messages) ≡ ([] ∷ [] ∷ []) ∷ ([] ∷ (ask 1 ∷ []) ∷ []) ∷ ([] ∷ [] ∷ []) ∷ ([] ∷ [] ∷ []) ∷ ([] ∷ [] ∷ []) ∷ []
one_request = refl

-- else it names each
pub with_notices : packets (runs (at_stories []) messages) ≡
    ((from_to ([] ∷ [] ∷ []) (one ∷ [] ∷ []) (n 7 ∷ []) ∷ []) ∷ [])
    ∷ ([] ∷ [])
    ∷ ((carries (one ∷ [] ∷ []) 7 ∷ []) ∷ [])
    ∷ ((from_to (one ∷ [] ∷ []) (two ∷ [] ∷ []) (n 7 ∷ []) ∷ []) ∷ [])
    ∷ ((from_to (two ∷ [] ∷ []) (three ∷ [] ∷ []) (n 7 ∷ []) ∷ []) ∷ [])
    ∷ []
with_notices = refl

-- ---- which keys an entry evicts
-- a vote whose story's votes are not here; one that waits; one that is filled
pub vote_at_hole : evictions (runs (at_stories one) (of_votes [] (inserts (vote 10 1) ∷ []) (plus_of (vote 10 1) ∷ []) ∷ [])) ≡ (((n 7 ∷ []) ∷ []) ∷ []) ∷ []
vote_at_hole = refl

pub vote_at_waiting : evictions (runs (at_stories one) (asks 1 7 ∷ of_votes [] (inserts (vote 10 1) ∷ []) (plus_of (vote 10 1) ∷ []) ∷ [])) ≡ ([] ∷ []) ∷ (((n 7 ∷ []) ∷ []) ∷ []) ∷ []
vote_at_waiting = refl

pub vote_at_filled : evictions (runs (at_stories one) (asks 1 7 ∷ piece 1 0 1 ∷ of_votes [] (inserts (vote 10 1) ∷ []) (plus_of (vote 10 1) ∷ []) ∷ [])) ≡ ([] ∷ []) ∷ (([] ∷ []) ∷ []) ∷ (([] ∷ []) ∷ []) ∷ []
vote_at_filled = refl

-- a vote for no story
pub vote_for_none : evictions (runs (at_stories one) (of_votes [] (inserts (vote 10 3) ∷ []) (plus_of (vote 10 3) ∷ []) ∷ [])) ≡ (([] ∷ []) ∷ []) ∷ []
vote_for_none = refl

-- a vote that moves between stories: the authors in order, each once
abbrev pub authored : List Change
authored = inserts (story 1 8) ∷ inserts (story 3 7) ∷ inserts (story 5 8) ∷ []

pub vote_moves : evictions (runs (at_line votes_small (authored ∷ (inserts (vote 10 1) ∷ []) ∷ [])) (of_votes (inserts (vote 10 1) ∷ []) (inserts (vote 10 1) ∷ updates (vote 10 3) ∷ []) (minus_of (vote 10 1) ∷ plus_of (vote 10 3) ∷ []) ∷ []))
    ≡ (((n 7 ∷ n 8 ∷ []) ∷ []) ∷ []) ∷ []
vote_moves = refl

-- record by record, not by net change: an Update to an equal story
pub equal_update : evictions (runs (at_stories one) (of_stories one (one ++ updates (story 1 7) ∷ []) (minus_of (story 1 7) ∷ plus_of (story 1 7) ∷ []) ∷ [])) ≡ (((n 7 ∷ []) ∷ []) ∷ []) ∷ []
equal_update = refl

-- votes that fail the side's condition change nothing
abbrev pub late_votes : Layout
late_votes = record votes_small { right = Some (record { table = 1; key = 1; conditions = record { column = 0; op = op.Greater; value = n 10 } ∷ [] }) }

pub condition_fails : evictions (runs (at_line late_votes (one ∷ [] ∷ [])) (of_votes [] (inserts (vote 10 1) ∷ []) (plus_of (vote 10 1) ∷ []) ∷ [])) ≡ (([] ∷ []) ∷ []) ∷ []
condition_fails = refl

pub condition_holds : evictions (runs (at_line late_votes (one ∷ [] ∷ [])) (of_votes [] (inserts (vote 11 1) ∷ []) (plus_of (vote 11 1) ∷ []) ∷ [])) ≡ (((n 7 ∷ []) ∷ []) ∷ []) ∷ []
condition_holds = refl

-- a view of two shards: each has a packet, with its own keys
abbrev pub two_shards : Layout
two_shards = record votes_small { views = view (codes "by_author") 1 2 4 ∷ [] }

pub own_keys : evictions (runs (at_line two_shards (one ∷ [] ∷ [])) (of_stories one (one ++ updates (story 1 8) ∷ []) (minus_of (story 1 7) ∷ plus_of (story 1 8) ∷ []) ∷ [])) ≡ (((n 8 ∷ []) ∷ []) ∷ ((n 7 ∷ []) ∷ []) ∷ []) ∷ []
own_keys = refl

-- ---- requests
-- the votes of all stories of the key are asked for, in the order of the stories
pub asks_in_order : requests (runs (at_stories (inserts (story 5 7) ∷ inserts (story 1 7) ∷ inserts (story 3 8) ∷ [])) (asks 1 7 ∷ [])) ≡ ([] ∷ (ask 1 ∷ ask 5 ∷ []) ∷ []) ∷ []
asks_in_order = refl

-- a key of no story is answered at once
pub empty_at_once : packets (runs (at_stories one) (asks 1 9 ∷ [])) ≡ ((carries (one ∷ [] ∷ []) 9 ∷ []) ∷ []) ∷ []
empty_at_once = refl

-- a second request asks for nothing more, and is answered too
abbrev pub asked_twice : List Done
asked_twice = runs (at_stories one) (asks 1 7 ∷ asks 1 7 ∷ piece 1 0 1 ∷ asks 1 7 ∷ [])

pub asks_once : requests asked_twice ≡ ([] ∷ (ask 1 ∷ []) ∷ []) ∷ ([] ∷ [] ∷ []) ∷ ([] ∷ [] ∷ []) ∷ ([] ∷ [] ∷ []) ∷ []
asks_once = refl

pub answers_each : packets asked_twice ≡ ([] ∷ []) ∷ ([] ∷ []) ∷ ((carries (one ∷ [] ∷ []) 7 ∷ carries (one ∷ [] ∷ []) 7 ∷ []) ∷ []) ∷ ((carries (one ∷ [] ∷ []) 7 ∷ []) ∷ []) ∷ []
answers_each = refl

-- requests that become ready at once are answered in order of arrival: stories by their author, asked for by id
abbrev pub by_writer : Layout
by_writer = record votes_small { left = side 0 1; views = view (codes "by_id") 0 1 4 ∷ [] }

pub in_order_of_arrival : packets (runs (at_line by_writer (two ∷ [] ∷ [])) (asks 1 3 ∷ asks 1 1 ∷ piece 1 0 7 ∷ [])) ≡ ([] ∷ []) ∷ ([] ∷ []) ∷ ((carries (two ∷ [] ∷ []) 3 ∷ carries (two ∷ [] ∷ []) 1 ∷ []) ∷ []) ∷ []
in_order_of_arrival = refl

-- the tag names the view
abbrev pub two_views : Layout
two_views = record votes_small { views = view (codes "by_author") 1 1 4 ∷ view (codes "by_id") 0 1 4 ∷ [] }

pub second_view : packets (runs (at_line two_views (one ∷ [] ∷ [])) (asks 2 9 ∷ [])) ≡ ([] ∷ (carries (one ∷ [] ∷ []) 9 ∷ []) ∷ []) ∷ []
second_view = refl

-- ---- pieces
-- the right keys that are filled after each message, in the order of filling
abbrev pub order_of : Option Keys → List Datum
order_of None = []
order_of (Some keys) = keys.order

abbrev pub filled_keys : List Done → List (List Datum)
filled_keys ds = map (λ (d : Done). order_of d.stage.right) ds

-- a piece of another tag, of a left source, for a key that does not wait, or a second one changes nothing
pub other_pieces : filled_keys (runs (at_stories one) (piece 1 0 1 ∷ asks 1 7 ∷ piece 1 1 1 ∷ piece 0 0 1 ∷ piece 1 0 3 ∷ piece 1 0 1 ∷ piece 1 0 1 ∷ [])) ≡ [] ∷ [] ∷ [] ∷ [] ∷ [] ∷ (n 1 ∷ []) ∷ (n 1 ∷ []) ∷ []
other_pieces = refl

-- of two right sources each is asked, and the key is filled with the second piece
abbrev pub two_bases : Layout
two_bases = record votes_small { tables = table (codes "stories") 1 0 (number (codes "id") ∷ number (codes "author") ∷ []) ∷ table (codes "votes") 2 0 (number (codes "vid") ∷ number (codes "story") ∷ []) ∷ [] }

abbrev pub two_pieces : List Done
two_pieces = runs (at_line two_bases (one ∷ [] ∷ [] ∷ [])) (asks 1 7 ∷ piece 1 0 1 ∷ piece 1 0 1 ∷ piece 2 0 1 ∷ [])

pub asks_both : requests two_pieces ≡ ([] ∷ (ask 1 ∷ []) ∷ (ask 1 ∷ []) ∷ []) ∷ ([] ∷ [] ∷ [] ∷ []) ∷ ([] ∷ [] ∷ [] ∷ []) ∷ ([] ∷ [] ∷ [] ∷ []) ∷ []
asks_both = refl

pub filled_by_both : filled_keys two_pieces ≡ [] ∷ [] ∷ [] ∷ (n 1 ∷ []) ∷ []
filled_by_both = refl

-- ---- orders
-- at a hole, at a key that waits, at a filled key, and then again
pub orders : packets (runs (at_stories one) (order (n 1) ∷ asks 1 7 ∷ order (n 1) ∷ piece 1 0 1 ∷ order (n 1) ∷ order (n 1) ∷ []))
    ≡ ([] ∷ []) ∷ ([] ∷ []) ∷ ([] ∷ []) ∷ ((carries (one ∷ [] ∷ []) 7 ∷ []) ∷ []) ∷ ((from_to (one ∷ [] ∷ []) (one ∷ [] ∷ []) (n 7 ∷ []) ∷ []) ∷ []) ∷ ([] ∷ []) ∷ []
orders = refl

-- a filled key of no story goes without a packet
abbrev pub none_left : List Change
none_left = one ++ deletes (n 1) ∷ []

abbrev pub unnamed : List Done
unnamed = runs (at_stories one) (asks 1 7 ∷ piece 1 0 1 ∷ of_stories one none_left (minus_of (story 1 7) ∷ []) ∷ order (n 1) ∷ [])

pub unnamed_goes : filled_keys unnamed ≡ [] ∷ (n 1 ∷ []) ∷ (n 1 ∷ []) ∷ [] ∷ []
unnamed_goes = refl

pub unnamed_silent : packets unnamed ≡ ([] ∷ []) ∷ ((carries (one ∷ [] ∷ []) 7 ∷ []) ∷ []) ∷ ((from_to (one ∷ [] ∷ []) (none_left ∷ [] ∷ []) [] ∷ []) ∷ []) ∷ ([] ∷ []) ∷ []
unnamed_silent = refl

-- only a view shard with a key to evict has a packet
pub one_concerned : packets (runs (at_line two_shards (one ∷ [] ∷ [])) (asks 1 7 ∷ piece 1 0 1 ∷ order (n 1) ∷ []))
    ≡ ([] ∷ [] ∷ []) ∷ ([] ∷ (carries (one ∷ [] ∷ []) 7 ∷ []) ∷ []) ∷ ([] ∷ (from_to (one ∷ [] ∷ []) (one ∷ [] ∷ []) (n 7 ∷ []) ∷ []) ∷ []) ∷ []
one_concerned = refl

-- requests that wait are looked at after an order too: what they need is asked for again
pub order_then_look : requests (runs (at_stories two) (asks 1 7 ∷ piece 1 0 1 ∷ order (n 1) ∷ [])) ≡ ([] ∷ (ask 1 ∷ ask 3 ∷ []) ∷ []) ∷ ([] ∷ [] ∷ []) ∷ ([] ∷ (ask 1 ∷ []) ∷ []) ∷ []
order_then_look = refl

-- ---- the cap
-- it rests while a request waits; then the piece goes first, and the key that was filled first goes
abbrev pub cap_one : Layout
cap_one = record votes_small { cap = 1 }

abbrev pub above_cap : List Done
above_cap = runs (at_line cap_one (two ∷ [] ∷ [])) (asks 1 7 ∷ piece 1 0 3 ∷ piece 1 0 1 ∷ [])

pub piece_then_cap : packets above_cap ≡ ([] ∷ []) ∷ ([] ∷ []) ∷ ((carries (two ∷ [] ∷ []) 7 ∷ from_to (two ∷ [] ∷ []) (two ∷ [] ∷ []) (n 7 ∷ []) ∷ []) ∷ []) ∷ []
piece_then_cap = refl

pub oldest_goes_first : filled_keys above_cap ≡ [] ∷ (n 3 ∷ []) ∷ (n 1 ∷ []) ∷ []
oldest_goes_first = refl

-- a cap rests as long as any request waits
pub cap_rests : filled_keys (runs (at_line cap_one (authored ∷ [] ∷ [])) (asks 1 8 ∷ asks 1 7 ∷ piece 1 0 1 ∷ piece 1 0 5 ∷ piece 1 0 3 ∷ [])) ≡ [] ∷ [] ∷ (n 1 ∷ []) ∷ (n 1 ∷ n 5 ∷ []) ∷ (n 3 ∷ []) ∷ []
cap_rests = refl

-- several that go at once: one packet for each
pub one_packet_each : evictions (runs (at_line cap_one (three ∷ [] ∷ [])) (asks 1 7 ∷ piece 1 0 1 ∷ piece 1 0 3 ∷ piece 1 0 5 ∷ []))
    ≡ ([] ∷ []) ∷ ([] ∷ []) ∷ ([] ∷ []) ∷ (([] ∷ (n 7 ∷ []) ∷ (n 7 ∷ []) ∷ []) ∷ []) ∷ []
one_packet_each = refl

-- ---- markers
-- a marker goes on once it has come from every source, each fence for itself
pub marks_of_two : packets (runs (at_stories one) (marks 0 4 ∷ marks 0 5 ∷ marks 1 5 ∷ marks 1 4 ∷ [])) ≡ ([] ∷ []) ∷ ([] ∷ []) ∷ ((brings (one ∷ [] ∷ []) 5 ∷ []) ∷ []) ∷ ((brings (one ∷ [] ∷ []) 4 ∷ []) ∷ []) ∷ []
marks_of_two = refl

-- ---- with no right side
-- nothing is unknown, and a request is answered at once
abbrev pub left_alone : Stage
left_alone = record (at_line (record votes_small { right = None; aggregate = None }) ([] ∷ [])) { right = None }

pub all_known : packets (runs left_alone (of_stories [] one (plus_of (story 1 7) ∷ []) ∷ asks 1 7 ∷ order (n 1) ∷ []))
    ≡ ((from_to ([] ∷ []) (one ∷ []) [] ∷ []) ∷ []) ∷ ((carries (one ∷ []) 7 ∷ []) ∷ []) ∷ ([] ∷ []) ∷ []
all_known = refl
