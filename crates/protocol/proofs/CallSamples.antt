-- Calls, deliveries, orders and stops: which reply comes when.
use Rattle.std.proofs.Common.{true, ◌≡◌, ℕ, List, [], ◌∷◌, ◌++◌, map, take, refl, Some, None, codes}
use Rattle.row.specs.Cells.{text}
use Rattle.row.specs.declared.refused.Refused.TheVariants.{UnknownTable, BadRow, UnknownView, BadKey, Stopped, UnknownPlace}
use Rattle.plan.proofs.SamplePlans.{votes_small, clicks_summed}
use Rattle.plan.specs.declared.domain.DomainId.TheVariants as domain
use Rattle.model.specs.Logs.{inserts, deletes}
use Rattle.model.proofs.Samples.{n}
use Rattle.protocol.specs.Worlds.{World, Caller, start}
use Rattle.protocol.specs.Events.{Event, write, try_read, want, fence, count, evict_stage, evict_view, stop, settle, Reply, accepted, refused, hit, wanted, fence_sent, delivered, idle, fenced, evicted, stopped, settled, unsettled}
use Rattle.protocol.specs.WorldSteps.{Did, step, replies, rounds, raised}
use Rattle.protocol.proofs.SampleWords.{stories, by_author, base, stage, view, goes, tries, wants}
use Rattle.protocol.proofs.WorldSamples.{story, prelude_replies, after, counts, cut}
use Rattle.protocol.specs.Laws.{happens, world_after}

abbrev pub says : List Event → List Reply
says es = replies (start true votes_small) es

-- ---- what is looked for first
-- a session that there is not, then the arguments, then what has stopped
pub session_first : says (write 16 (codes "nope") (inserts []) ∷ try_read 16 (codes "nope") (n 7) ∷ want 16 (codes "nope") (n 7) ∷ count 16 (codes "nope") ∷ [])
    ≡ refused UnknownPlace ∷ refused UnknownPlace ∷ refused UnknownPlace ∷ refused UnknownPlace ∷ []
session_first = refl

pub arguments_first :
    says (
    stop (Some (base 0)) ∷ stop (Some view) ∷ write 0 (codes "nope") (inserts []) ∷ write 0 stories (inserts (n 1 ∷ [])) ∷ write 0 stories (deletes (text (codes "x"))) ∷ write 0 stories (deletes (n 1))
    ∷ want 0 (codes "nope") (n 7) ∷ want 0 by_author (text (codes "x")) ∷ wants ∷ count 0 (codes "nope")
    ∷ evict_view (codes "nope") (n 7) ∷ evict_view by_author (text (codes "x")) ∷ evict_view by_author (n 7) ∷ [])
    ≡ stopped ∷ stopped ∷ refused UnknownTable ∷ refused BadRow ∷ refused BadKey ∷ refused Stopped
    ∷ refused UnknownView ∷ refused BadKey ∷ refused Stopped ∷ refused UnknownView
    ∷ refused UnknownView ∷ refused BadKey ∷ refused Stopped ∷ []
arguments_first = refl

-- an order at the stage, also with no right side
pub stage_orders : replies (start true clicks_summed) (evict_stage (n 1) ∷ evict_stage (text (codes "home")) ∷ stop (Some (stage 0)) ∷ evict_stage (text (codes "home")) ∷ evict_stage (n 1) ∷ [])
    ≡ refused BadKey ∷ evicted ∷ stopped ∷ refused Stopped ∷ refused BadKey ∷ []
stage_orders = refl

-- ---- wants
-- a key that waits is refused where a needed domain has stopped, a shown one is not
pub waits_refused : after (stop (Some (stage 0)) ∷ wants ∷ []) ≡ prelude_replies ++ (stopped ∷ refused Stopped ∷ [])
waits_refused = refl

pub shown_wanted : after (settle ∷ stop (Some view) ∷ wants ∷ tries ∷ want 0 by_author (n 9) ∷ []) ≡ prelude_replies ++ (settled [] ∷ stopped ∷ wanted ∷ hit (counts 1 1) (cut 2 2 2 2) ∷ refused Stopped ∷ [])
shown_wanted = refl

-- ---- stops
-- what comes to a domain that has stopped is taken off its edge, and lost
pub lost : says (story 1 7 ∷ stop (Some (stage 1)) ∷ stop (Some (stage 1)) ∷ goes (base 0) (stage 1) ∷ goes (base 0) (stage 1) ∷ goes (stage 1) view ∷ goes (base 0) (stage 0) ∷ goes (stage 0) view ∷ [])
    ≡ accepted 0 0 0 ∷ stopped ∷ stopped ∷ delivered ∷ idle ∷ idle ∷ delivered ∷ delivered ∷ []
lost = refl

pub no_such_domain : says (stop (Some (domain.Base 0 1)) ∷ stop (Some (stage 2)) ∷ stop (Some (domain.View 1 0)) ∷ stop None ∷ []) ≡ refused UnknownPlace ∷ refused UnknownPlace ∷ refused UnknownPlace ∷ refused UnknownPlace ∷ []
no_such_domain = refl

-- ---- fences
-- a delivery that brings the last acknowledgement
abbrev pub to_stages : List Event
to_stages = goes (base 0) (stage 0) ∷ goes (base 0) (stage 1) ∷ goes (base 1) (stage 0) ∷ goes (base 1) (stage 1) ∷ []

pub ended_by_delivery : says (fence 3 ∷ to_stages ++ (goes (stage 0) view ∷ goes (stage 1) view ∷ goes (stage 1) view ∷ []))
    ≡ fence_sent ∷ delivered ∷ delivered ∷ delivered ∷ delivered ∷ delivered ∷ fenced 3 ∷ idle ∷ []
ended_by_delivery = refl

-- a fence that is refused leaves the open one as it was
pub refused_leaves_open : says (fence 0 ∷ to_stages ++ (stop (Some (base 0)) ∷ fence 0 ∷ goes (stage 0) view ∷ goes (stage 1) view ∷ []))
    ≡ fence_sent ∷ delivered ∷ delivered ∷ delivered ∷ delivered ∷ stopped ∷ refused Stopped ∷ delivered ∷ fenced 0 ∷ []
refused_leaves_open = refl

-- the markers of the first fence do not end the second
pub second_replaces : says (fence 0 ∷ to_stages ++ (fence 0 ∷ goes (stage 0) view ∷ goes (stage 1) view ∷ settle ∷ []))
    ≡ fence_sent ∷ delivered ∷ delivered ∷ delivered ∷ delivered ∷ fence_sent ∷ delivered ∷ delivered ∷ settled (0 ∷ []) ∷ []
second_replaces = refl

-- a fence waits behind the writes before it
pub behind_writes : says (story 1 7 ∷ fence 0 ∷ to_stages ++ (goes (stage 0) view ∷ goes (stage 1) view ∷ settle ∷ [])) ≡ accepted 0 0 0 ∷ fence_sent ∷ delivered ∷ delivered ∷ delivered ∷ delivered ∷ delivered ∷ delivered ∷ settled (0 ∷ []) ∷ []
behind_writes = refl

-- a floor is raised to the greater length at each place
pub raised_by_place : raised votes_small (((5 ∷ 1 ∷ []) ∷ (2 ∷ 2 ∷ []) ∷ []) ∷ []) (Some ((3 ∷ 4 ∷ []) ∷ (2 ∷ 3 ∷ []) ∷ []) ∷ []) ≡ ((5 ∷ 4 ∷ []) ∷ (2 ∷ 3 ∷ []) ∷ []) ∷ []
raised_by_place = refl

-- ---- numbers
-- each write and each fence takes a number, also where it is refused; no other call does
abbrev pub numbers : World → List ℕ
numbers w = map (λ (c : Caller). c.number) (take 2 w.callers)

pub all_numbered : numbers (world_after (start true votes_small) (map happens (story 1 7 ∷ story 1 7 ∷ write 0 (codes "nope") (inserts []) ∷ stop (Some (stage 0)) ∷ fence 0 ∷ tries ∷ wants ∷ count 0 by_author ∷ fence 1 ∷ []))) ≡ 4 ∷ 1 ∷ []
all_numbered = refl

-- ---- settle
-- the round that finds all edges empty is one of those that are allowed
abbrev pub one_story : World
one_story = (step (start true votes_small) (story 1 7)).world

abbrev pub reply_of : Did → Reply
reply_of d = d.reply

pub one_round : reply_of (rounds 1 one_story []) ≡ unsettled []
one_round = refl

pub two_rounds : reply_of (rounds 2 one_story []) ≡ settled []
two_rounds = refl

pub fence_in_one_round : reply_of (rounds 1 (step one_story (fence 0)).world []) ≡ unsettled []
fence_in_one_round = refl

pub fence_in_two : reply_of (rounds 2 (step one_story (fence 0)).world []) ≡ unsettled (0 ∷ [])
fence_in_two = refl
