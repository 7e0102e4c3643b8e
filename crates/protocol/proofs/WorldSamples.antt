-- Schedules over stories and votes, and their replies.
use Rattle.std.proofs.Common.{true, false, ◌≡◌, ℕ, List, [], ◌∷◌, ◌++◌, refl, Some, None}
use Rattle.row.specs.Cells.{Cells}
use Rattle.row.specs.declared.refused.Refused.TheVariants.{Stopped, Behind, UnknownPlace}
use Rattle.plan.proofs.SamplePlans.{votes_small}
use Rattle.model.specs.Logs.{inserts}
use Rattle.model.specs.Histories.{Lengths}
use Rattle.protocol.specs.Worlds.{start}
use Rattle.protocol.specs.Events.{Event, write, want, fence, count, deliver, evict_stage, evict_view, stop, settle, Reply, accepted, refused, hit, miss, wanted, fence_sent, asked, delivered, idle, evicted, stopped, settled}
use Rattle.protocol.specs.WorldSteps.{replies}
use Rattle.model.proofs.Samples.{n}
use Rattle.protocol.proofs.SampleWords.{stories, votes, by_author, base, stage, view, goes, tries, wants}

abbrev pub story : ℕ → ℕ → Event
story i a = write 0 stories (inserts (n i ∷ n a ∷ []))

abbrev pub vote : ℕ → ℕ → Event
vote v s = write 0 votes (inserts (n v ∷ n s ∷ []))

abbrev pub prelude : List Event
prelude = story 1 7 ∷ story 2 7 ∷ vote 10 1 ∷ vote 11 2 ∷ settle ∷ wants ∷ settle ∷ evict_view by_author (n 7) ∷ wants ∷ []

abbrev pub prelude_replies : List Reply
prelude_replies = accepted 0 0 0 ∷ accepted 0 0 1 ∷ accepted 1 0 0 ∷ accepted 1 0 1 ∷ settled [] ∷ wanted ∷ settled [] ∷ evicted ∷ wanted ∷ []

abbrev pub counts : ℕ → ℕ → List Cells
counts a b = (n 1 ∷ n 7 ∷ n a ∷ []) ∷ (n 2 ∷ n 7 ∷ n b ∷ []) ∷ []

abbrev pub cut : ℕ → ℕ → ℕ → ℕ → Lengths
cut a b c d = (a ∷ b ∷ []) ∷ (c ∷ d ∷ []) ∷ []

pub to_the_gather : replies (start true votes_small) prelude ≡ prelude_replies
to_the_gather = refl

-- after the prelude
abbrev pub after : List Event → List Reply
after es = replies (start true votes_small) (prelude ++ es)

-- an update after its piece
pub update_after_piece :
    after (
    goes view (stage 0) ∷ goes view (stage 1) ∷ goes (stage 0) view
    ∷ vote 12 2 ∷ goes (base 1) (stage 0) ∷ goes (stage 0) view ∷ tries
    ∷ goes (stage 1) view ∷ tries ∷ []
    ) ≡ prelude_replies ++ (
    delivered ∷ delivered ∷ delivered
    ∷ accepted 1 0 2 ∷ delivered ∷ delivered ∷ miss
    ∷ delivered ∷ hit (counts 1 2) (cut 2 3 2 2) ∷ []
    )
update_after_piece = refl

-- an update before its piece
pub update_before_piece :
    after (
    vote 12 1 ∷ goes (base 1) (stage 1) ∷ goes view (stage 1) ∷ goes view (stage 0) ∷ goes (stage 0) view ∷ goes (stage 1) view ∷ tries
    ∷ goes (stage 1) view ∷ tries ∷ []
    ) ≡ prelude_replies ++ (
    accepted 1 0 2 ∷ delivered ∷ delivered ∷ delivered ∷ delivered ∷ delivered ∷ miss
    ∷ delivered ∷ hit (counts 2 1) (cut 2 2 2 3) ∷ []
    )
update_before_piece = refl

-- an eviction inside a gather
pub eviction_in_gather :
    after (
    goes view (stage 0) ∷ goes view (stage 1) ∷ goes (stage 0) view ∷ evict_stage (n 2)
    ∷ goes (stage 0) view ∷ goes (stage 1) view ∷ tries ∷ settle ∷ count 0 by_author ∷ tries ∷ []
    ) ≡ prelude_replies ++ (
    delivered ∷ delivered ∷ delivered ∷ evicted
    ∷ delivered ∷ delivered ∷ miss ∷ settled [] ∷ asked 5 ∷ hit (counts 1 1) (cut 2 2 2 2) ∷ []
    )
eviction_in_gather = refl

-- a stage shard that has stopped
pub stopped_stage : after (settle ∷ stop (Some (stage 0)) ∷ tries ∷ want 0 by_author (n 9) ∷ []) ≡ prelude_replies ++ (settled [] ∷ stopped ∷ hit (counts 1 1) (cut 2 2 2 2) ∷ refused Stopped ∷ [])
stopped_stage = refl

-- a base shard that has stopped
pub stopped_votes :
    after (settle ∷ stop (Some (base 1)) ∷ vote 12 1 ∷ fence 0 ∷ wants ∷ tries ∷ story 3 7 ∷ settle ∷ tries ∷ wants ∷ [])
    ≡ prelude_replies ++ (settled [] ∷ stopped ∷ refused Stopped ∷ refused Stopped ∷ wanted ∷ hit (counts 1 1) (cut 2 2 2 2) ∷ accepted 0 0 2 ∷ settled [] ∷ miss ∷ refused Stopped ∷ [])
stopped_votes = refl

-- a key that waits is not asked for again
pub wanted_twice : after (wants ∷ settle ∷ count 0 by_author ∷ []) ≡ prelude_replies ++ (wanted ∷ settled [] ∷ asked 4 ∷ [])
wanted_twice = refl

pub empty_edges :
    replies (start true votes_small) (goes (stage 0) view ∷ goes (stage 9) view ∷ deliver None ∷ fence 16 ∷ fence 0 ∷ settle ∷ [])
    ≡ idle ∷ refused UnknownPlace ∷ refused UnknownPlace ∷ refused UnknownPlace ∷ fence_sent ∷ settled (0 ∷ []) ∷ []
empty_edges = refl

-- a write that a fence's markers have overtaken
pub fence_behind :
    replies (start true votes_small) (
    fence 0 ∷ story 1 7
    ∷ goes (base 0) (stage 0) ∷ goes (base 0) (stage 1) ∷ goes (base 1) (stage 0) ∷ goes (base 1) (stage 1) ∷ goes (stage 0) view ∷ goes (stage 1) view
    ∷ settle ∷ fence 0 ∷ settle ∷ [])
    ≡ fence_sent ∷ accepted 0 0 0 ∷ delivered ∷ delivered ∷ delivered ∷ delivered ∷ delivered ∷ refused Behind ∷ settled [] ∷ fence_sent ∷ settled (0 ∷ []) ∷ []
fence_behind = refl

-- a second fence takes the place of an open one
pub fence_again :
    replies (start true votes_small) (story 1 7 ∷ fence 1 ∷ wants ∷ settle ∷ tries ∷ fence 0 ∷ fence 0 ∷ settle ∷ [])
    ≡ accepted 0 0 0 ∷ fence_sent ∷ wanted ∷ settled (1 ∷ []) ∷ hit [] (cut 1 0 1 0) ∷ fence_sent ∷ fence_sent ∷ settled (0 ∷ []) ∷ []
fence_again = refl

-- with the right side held in full no base shard is asked
pub held_in_full :
    replies (start false votes_small) (
    story 1 7 ∷ vote 10 1 ∷ settle ∷ wants ∷ goes view (stage 0) ∷ goes view (stage 1) ∷ goes (stage 1) (base 1)
    ∷ goes (stage 0) view ∷ tries ∷ goes (stage 1) view ∷ tries ∷ []
    ) ≡ accepted 0 0 0 ∷ accepted 1 0 0 ∷ settled [] ∷ wanted ∷ delivered ∷ delivered ∷ idle
    ∷ delivered ∷ miss ∷ delivered ∷ hit ((n 1 ∷ n 7 ∷ n 1 ∷ []) ∷ []) (cut 1 1 1 1) ∷ []
held_in_full = refl
