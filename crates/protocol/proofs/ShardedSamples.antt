-- Schedules over a plan with two shards of everything: joins, moves, evictions and caps.
use Rattle.std.proofs.Common.{true, ◌≡◌, ℕ, List, [], ◌∷◌, ◌++◌, refl, Some, codes}
use Rattle.row.specs.Cells.{text, Cells}
use Rattle.row.specs.declared.refused.Refused.TheVariants.{Duplicate, Absent, UnknownPlace}
use Rattle.plan.specs.Layouts.{Layout}
use Rattle.plan.specs.Recipes.{side, view}
use Rattle.plan.proofs.SamplePlans.{votes_counted, stories, votes, clicks_summed}
use Rattle.plan.specs.declared.domain.DomainId.TheVariants as domain
use Rattle.model.specs.Places.{base_at}
use Rattle.plan.specs.declared.kinds.Aggregate.TheVariants.{Count}
use Rattle.model.specs.Logs.{inserts, deletes, updates}
use Rattle.protocol.specs.Worlds.{start}
use Rattle.protocol.specs.Events.{Event, write, try_read, want, fence, count, evict_stage, stop, settle, Reply, accepted, refused, hit, miss, wanted, fence_sent, asked, evicted, settled}
use Rattle.protocol.specs.WorldSteps.{replies}
use Rattle.model.proofs.Samples.{n, both}
use Rattle.protocol.proofs.SampleWords.{by_author, tries, reads}

abbrev pub story : ℕ → ℕ → List ℕ → Event
story i a t = write 0 (codes "stories") (inserts (n i ∷ n a ∷ text t ∷ []))

abbrev pub vote : ℕ → ℕ → Event
vote v s = write 0 (codes "votes") (inserts (n v ∷ n s ∷ n 1 ∷ []))

abbrev pub told : ℕ → List ℕ → ℕ → Cells
told i t c = n i ∷ n 7 ∷ text t ∷ n c ∷ []

-- a join, a move of a vote, a new story behind a filled key, an eviction of a stage key
pub joined_and_moved :
    replies (start true votes_counted) (
    fence 0 ∷ settle ∷ reads 7
    ++ (story 1 7 (codes "a") ∷ vote 10 1 ∷ vote 11 1 ∷ fence 0 ∷ settle ∷ []) ++ reads 7
    ++ (story 2 7 (codes "b") ∷ fence 0 ∷ settle ∷ []) ++ reads 7
    ++ (write 0 (codes "stories") (inserts (n 1 ∷ n 9 ∷ text (codes "x") ∷ [])) ∷ write 0 (codes "votes") (deletes (n 99)) ∷ [])
    ++ (write 0 (codes "votes") (updates (n 10 ∷ n 2 ∷ n 1 ∷ [])) ∷ fence 0 ∷ settle ∷ []) ++ reads 7
    ++ (vote 12 4 ∷ fence 0 ∷ settle ∷ story 4 7 (codes "d") ∷ fence 0 ∷ settle ∷ tries ∷ []) ++ reads 7
    ++ (evict_stage (n 1) ∷ vote 13 1 ∷ fence 0 ∷ settle ∷ []) ++ reads 7
    ) ≡
    fence_sent ∷ settled (0 ∷ []) ∷ wanted ∷ settled [] ∷ hit [] (both (0 ∷ 0 ∷ 0 ∷ 0 ∷ []))
    ∷ accepted 0 1 0 ∷ accepted 1 0 0 ∷ accepted 1 1 0 ∷ fence_sent ∷ settled (0 ∷ []) ∷ wanted ∷ settled [] ∷ hit (told 1 (codes "a") 2 ∷ []) (both (0 ∷ 1 ∷ 1 ∷ 1 ∷ []))
    ∷ accepted 0 0 0 ∷ fence_sent ∷ settled (0 ∷ []) ∷ wanted ∷ settled [] ∷ hit (told 1 (codes "a") 2 ∷ []) (both (1 ∷ 1 ∷ 1 ∷ 1 ∷ []))
    ∷ refused Duplicate ∷ refused Absent
    ∷ accepted 1 0 1 ∷ fence_sent ∷ settled (0 ∷ []) ∷ wanted ∷ settled [] ∷ hit (told 1 (codes "a") 1 ∷ told 2 (codes "b") 1 ∷ []) (both (1 ∷ 1 ∷ 2 ∷ 1 ∷ []))
    ∷ accepted 1 0 2 ∷ fence_sent ∷ settled (0 ∷ []) ∷ accepted 0 0 1 ∷ fence_sent ∷ settled (0 ∷ []) ∷ miss
    ∷ wanted ∷ settled [] ∷ hit (told 1 (codes "a") 1 ∷ told 2 (codes "b") 1 ∷ told 4 (codes "d") 1 ∷ []) (both (2 ∷ 1 ∷ 3 ∷ 1 ∷ []))
    ∷ evicted ∷ accepted 1 1 1 ∷ fence_sent ∷ settled (0 ∷ [])
    ∷ wanted ∷ settled [] ∷ hit (told 1 (codes "a") 2 ∷ told 2 (codes "b") 1 ∷ told 4 (codes "d") 1 ∷ []) (both (2 ∷ 1 ∷ 3 ∷ 2 ∷ []))
    ∷ []
joined_and_moved = refl

-- a view shard that holds one key: each read of the other fills anew
abbrev pub one_key : Layout
one_key = record { tables = stories 2 ∷ votes 2 ∷ []; stages = 2; left = side 0 0; right = Some (side 1 1); aggregate = Some Count; cap = 1024; views = view by_author 1 1 1 ∷ [] }

abbrev pub told_of : ℕ → ℕ → List ℕ → List Cells
told_of i a t = (n i ∷ n a ∷ text t ∷ n 1 ∷ []) ∷ []

abbrev pub filled_twice : List Reply
filled_twice =
    wanted ∷ settled [] ∷ hit (told_of 1 7 (codes "a")) (both (1 ∷ 1 ∷ 1 ∷ 1 ∷ []))
    ∷ wanted ∷ settled [] ∷ hit (told_of 2 8 (codes "b")) (both (1 ∷ 1 ∷ 1 ∷ 1 ∷ [])) ∷ []

pub cap_of_one :
    replies (start true one_key) (
    (story 1 7 (codes "a") ∷ story 2 8 (codes "b") ∷ vote 10 1 ∷ vote 11 2 ∷ fence 0 ∷ settle ∷ [])
    ++ reads 7 ++ reads 8 ++ reads 7 ++ reads 8 ++ reads 7 ++ reads 8 ++ count 0 by_author ∷ []
    ) ≡
    (accepted 0 1 0 ∷ accepted 0 0 0 ∷ accepted 1 0 0 ∷ accepted 1 1 0 ∷ fence_sent ∷ settled (0 ∷ []) ∷ [])
    ++ filled_twice ++ filled_twice ++ filled_twice ++ asked 12 ∷ []
cap_of_one = refl

-- a group, with no right side
pub grouped :
    replies (start true clicks_summed) (
    write 0 (codes "clicks") (inserts (n 1 ∷ text (codes "home") ∷ n 5 ∷ [])) ∷ write 0 (codes "clicks") (inserts (n 3 ∷ text (codes "home") ∷ n 7 ∷ [])) ∷ fence 0 ∷ settle
    ∷ want 0 (codes "by_page") (text (codes "home")) ∷ settle ∷ try_read 0 (codes "by_page") (text (codes "home"))
    ∷ write 0 (codes "clicks") (deletes (n 1)) ∷ fence 0 ∷ settle ∷ try_read 0 (codes "by_page") (text (codes "home")) ∷ evict_stage (text (codes "home")) ∷ [])
    ≡ accepted 0 0 0 ∷ accepted 0 0 1 ∷ fence_sent ∷ settled (0 ∷ []) ∷ wanted ∷ settled [] ∷ hit ((text (codes "home") ∷ n 12 ∷ []) ∷ []) ((2 ∷ []) ∷ [])
    ∷ accepted 0 0 2 ∷ fence_sent ∷ settled (0 ∷ []) ∷ hit ((text (codes "home") ∷ n 7 ∷ []) ∷ []) ((3 ∷ []) ∷ []) ∷ evicted ∷ []
grouped = refl

-- an event that names no shard of a table stops none, though the number that its places give is that of another table's shard
pub no_such_shard : replies (start true one_key) (stop (Some (domain.Base 0 2)) ∷ vote 10 1 ∷ []) ≡ refused UnknownPlace ∷ accepted 1 0 0 ∷ []
no_such_shard = refl

pub same_number : base_at one_key 0 2 ≡ base_at one_key 1 0
same_number = refl
