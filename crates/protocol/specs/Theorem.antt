-- What the replies to a schedule tell, and that it is a legal history.
use Rattle.std.specs.Prelude.{◌≡◌, ℕ, suc, ◌==◌, ◌&&◌, Bool, false, cond, nat_lt, List, [], ◌∷◌, ◌++◌, flat_map, length, filter, Option, Some, None}
use Rattle.std.specs.List.{list_any}
use Rattle.row.specs.Cells.{Datum}
use Rattle.row.specs.declared.refused.Refused.{Refused}
use Rattle.row.specs.declared.refused.Refused.TheVariants.{Stopped, UnknownPlace}
use Rattle.plan.specs.Layouts.{Layout, table_named, view_named}
use Rattle.plan.specs.Profile.{IsPlan}
use Rattle.plan.specs.declared.domain.DomainId.{DomainId}
use Rattle.plan.specs.declared.domain.DomainId.TheVariants as domain
use Rattle.model.specs.Logs.{Change}
use Rattle.model.specs.Places.{base_at, layout_of, table_of, shard_of, sources}
use Rattle.model.specs.Histories.{Item, write, read, fence, Place, Author, Floors, log_of, authors_of}
use Rattle.model.specs.Refusals.{refusal, write_refusal}
use Rattle.model.specs.Legal.{limit, most_sessions, IsLegal}
use Rattle.protocol.specs.Worlds.{start}
use Rattle.protocol.specs.Events as event
use Rattle.protocol.specs.Events.{Event, Reply, accepted, refused, hit, fenced, settled, unsettled}
use Rattle.protocol.specs.Edges.{is_there}
use Rattle.protocol.specs.WorldSteps.{base_for, replies}

-- ---- what came before
-- a write or a fence of the session
abbrev pub is_numbered : ℕ → Event → Bool
is_numbered se (event.write s t e) = s == se
is_numbered se (event.fence s) = s == se
is_numbered se other = false

-- the number of the session's next write or fence
abbrev pub number_in : ℕ → List Event → ℕ
number_in se past = length (filter (is_numbered se) past)

-- the domain is base shard b
abbrev pub is_base : Layout → ℕ → DomainId → Bool
is_base p b (domain.Base t n) = base_at p t n == b
is_base p b (domain.Stage n) = false
is_base p b (domain.View i n) = false

-- the event stops a domain that the plan has, and it is base shard b
abbrev pub stops_base : Layout → ℕ → Event → Bool
stops_base p b (event.stop (Some d)) = is_there p d && is_base p b d
stops_base p b other = false

-- one of the events did
abbrev pub has_stopped : Layout → ℕ → List Event → Bool
has_stopped p b past = list_any (stops_base p b) past

-- ---- the reply to a write: by its session, then by its arguments, then by its base shard, then by the log
-- the log decides: it refuses the entry, or accepts it at its length
abbrev pub by_log : Layout → ℕ → List Item → Option Refused → Reply
by_log p b h (Some r) = refused r
by_log p b h None = accepted (table_of p b) (shard_of p b) (length (log_of b h))

-- the base shard, where it was not stopped before
abbrev pub by_base : Layout → ℕ → List Event → List Item → Change → Reply
by_base p b past h e = cond (has_stopped p b past) (refused Stopped) (by_log p b h (refusal (layout_of p b).key limit (log_of b h) e))

-- the arguments are refused, or they name a table
abbrev pub by_call : Layout → Option ℕ → List Event → List Item → Change → Option Refused → Reply
by_call p t past h e (Some r) = refused r
by_call p None past h e None = refused UnknownPlace
by_call p (Some t) past h e None = by_base p (base_for p t e) past h e

-- a session that there is not is refused first
abbrev pub write_reply : Layout → List Event → List Item → ℕ → List ℕ → Change → Reply
write_reply p past h se table e =
    let t = table_named p table in
    cond (nat_lt se most_sessions) (by_call p t past h e (write_refusal p t e)) (refused UnknownPlace)

-- ---- the items that a reply tells
-- the places in sources that the session wrote, in a log from index i on
abbrev pub own_from : ℕ → ℕ → ℕ → List Author → List Place
own_from se b i [] = []
own_from se b i (a ∷ rest) = cond (a.session == se) (record { base = b; index = i } ∷ []) [] ++ own_from se b (suc i) rest

-- in all sources
abbrev pub own_places : Layout → List Item → ℕ → List Place
own_places p h se = flat_map (λ b. own_from se b 0 (authors_of b h)) (sources p)

-- a fence of all the session's accepted writes to sources, with some floors
abbrev pub IsFence : Layout → List Item → ℕ → List Item → Type 0
IsFence p h se is = (floors : Floors) × (is ≡ fence se (own_places p h se) floors ∷ [])

-- one such fence for each of these sessions, in order
abbrev pub AreFences : Layout → List Item → List ℕ → List Item → Type 0
AreFences p h [] is = is ≡ []
AreFences p h (se ∷ ses) is = (floors : Floors) × (rest : List Item) × (is ≡ fence se (own_places p h se) floors ∷ rest) × AreFences p h ses rest

-- an accepted write: the item at that shard, under the session's number; any other reply tells of nothing
abbrev pub IsWrite : Layout → List Event → ℕ → List ℕ → Change → Reply → List Item → Type 0
IsWrite p past se table e (accepted t s i) is = is ≡ write se (number_in se past) (base_at p t s) e ∷ []
IsWrite p past se table e other is = is ≡ []

-- a hit: the item with its rows and its cut; any other reply tells of nothing
abbrev pub IsRead : Layout → ℕ → List ℕ → Datum → Reply → List Item → Type 0
IsRead p se view k (hit rows cut) is = (i : ℕ) × (view_named p view ≡ Some i) × (is ≡ read se i k rows cut ∷ [])
IsRead p se view k other is = is ≡ []

-- the fences that have ended; any other reply tells of nothing
abbrev pub AreEnded : Layout → List Item → Reply → List Item → Type 0
AreEnded p h (fenced se) is = IsFence p h se is
AreEnded p h (settled ses) is = AreFences p h ses is
AreEnded p h (unsettled ses) is = AreFences p h ses is
AreEnded p h other is = is ≡ []

-- after the history h, told by the events so far, this event with this reply tells of these items
abbrev pub Told : Layout → List Event → List Item → Event → Reply → List Item → Type 0
Told p past h (event.write se table e) reply is = (reply ≡ write_reply p past h se table e) × IsWrite p past se table e reply is
Told p past h (event.try_read se view k) reply is = IsRead p se view k reply is
Told p past h other reply is = AreEnded p h reply is

-- the events with their replies lead from the history h to the history g
abbrev pub Tell : Layout → List Event → List Item → List Event → List Reply → List Item → Type 0
Tell p past h [] [] g = g ≡ h
Tell p past h [] (r ∷ rs) g = ⊥
Tell p past h (e ∷ es) [] g = ⊥
Tell p past h (e ∷ es) (r ∷ rs) g = (is : List Item) × Told p past h e r is × Tell p (past ++ e ∷ []) (h ++ is) es rs g

-- the replies tell of this history, and it is legal
abbrev pub IsHistoryOf : Layout → List Event → List Reply → List Item → Type 0
IsHistoryOf p events rs h = Tell p [] [] events rs h × IsLegal p most_sessions h

-- they tell of some legal history
abbrev pub AreLegal : Layout → List Event → List Reply → Type 0
AreLegal p events rs = (h : List Item) × IsHistoryOf p events rs h

-- for every plan and every schedule the replies, from the empty world on, tell of a legal history
abbrev pub EverySchedule : Type 0
EverySchedule = (by_key : Bool) (p : Layout) → IsPlan p → (events : List Event) → AreLegal p events (replies (start by_key p) events)
