-- Words of the schedules below: session 0 reads author 7.
use Rattle.std.specs.Prelude.{ℕ, List, [], ◌∷◌, Some, codes}
use Rattle.plan.specs.declared.domain.DomainId.{DomainId}
use Rattle.plan.specs.declared.domain.DomainId.TheVariants as domain
use Rattle.model.proofs.Samples.{n}
use Rattle.protocol.specs.Events.{Event, try_read, want, deliver, settle}

abbrev pub stories : List ℕ
stories = codes "stories"

abbrev pub votes : List ℕ
votes = codes "votes"

abbrev pub by_author : List ℕ
by_author = codes "by_author"

abbrev pub tries : Event
tries = try_read 0 by_author (n 7)

abbrev pub wants : Event
wants = want 0 by_author (n 7)

-- a read: a want, all deliveries, a try
abbrev pub reads : ℕ → List Event
reads a = want 0 by_author (n a) ∷ settle ∷ try_read 0 by_author (n a) ∷ []

-- the first shard of a table, a stage shard, the view's shard
abbrev pub base : ℕ → DomainId
base t = domain.Base t 0

abbrev pub stage : ℕ → DomainId
stage s = domain.Stage s

abbrev pub view : DomainId
view = domain.View 0 0

abbrev pub goes : DomainId → DomainId → Event
goes a b = deliver (Some (record { from = a; to = b }))
