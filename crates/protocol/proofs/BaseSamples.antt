-- What a base shard does with a message.
use Rattle.std.proofs.Common.{◌≡◌, ℕ, List, [], ◌∷◌, ◌++◌, refl, Option, Some, None}
use Rattle.row.specs.Cells.{Cells}
use Rattle.row.specs.declared.record.Record.{Record}
use Rattle.row.specs.declared.refused.Refused.TheVariants.{Duplicate}
use Rattle.plan.specs.Layouts.{Layout}
use Rattle.plan.specs.Recipes.{notes_table}
use Rattle.plan.proofs.SamplePlans.{votes_counted, stories, votes}
use Rattle.model.specs.Logs.{Change, inserts, updates}
use Rattle.model.specs.Histories.{Author}
use Rattle.model.proofs.Samples.{n}
use Rattle.base.specs.Records.{plus_of, minus_of}
use Rattle.packet.specs.Messages.{BasePacketView, Piece, Mark}
use Rattle.protocol.specs.Bases.{Base, Done, write, request, marker, accepted, declined}
use Rattle.protocol.specs.BaseSteps.{step}

abbrev pub cast : ℕ → ℕ → ℕ → Cells
cast v s w = n v ∷ n s ∷ n w ∷ []

-- the first shard of the votes, of which session 0 has written vote 10 under number 3
abbrev pub first : List Change
first = inserts (cast 10 1 1) ∷ []

abbrev pub by_first : List Author
by_first = record { session = 0; number = 3 } ∷ []

abbrev pub shard_of_votes : List Change → List Author → Base
shard_of_votes entries authors = record { plan = votes_counted; base = 2; entries = entries; authors = authors }

abbrev pub one : Base
one = shard_of_votes first by_first

-- a packet of it
abbrev pub told : ℕ → List Change → List Record → BasePacketView
told s to changes = record { plan = votes_counted; base = 2; stage = s; from = first; to = to; changes = changes; piece = None; marker = None }

abbrev pub stays : ℕ → Option Piece → Option Mark → BasePacketView
stays s piece m = record { plan = votes_counted; base = 2; stage = s; from = first; to = first; changes = []; piece = piece; marker = m }

abbrev pub after : Change → Base
after e = shard_of_votes (first ++ e ∷ []) (by_first ++ record { session = 0; number = 4 } ∷ [])

-- one packet to every stage shard, with the records that belong there, or none
pub entry_to_each : step one (write 0 4 (inserts (cast 12 2 1)))
    ≡ record { base = after (inserts (cast 12 2 1)); reply = Some (accepted 1); sent = (told 0 (first ++ inserts (cast 12 2 1) ∷ []) (plus_of (cast 12 2 1) ∷ []) ∷ []) ∷ (told 1 (first ++ inserts (cast 12 2 1) ∷ []) [] ∷ []) ∷ [] }
entry_to_each = refl

-- an Update that moves between stage shards
pub moved_between : (step one (write 0 4 (updates (cast 10 2 1)))).sent
    ≡ (told 0 (first ++ updates (cast 10 2 1) ∷ []) (plus_of (cast 10 2 1) ∷ []) ∷ []) ∷ (told 1 (first ++ updates (cast 10 2 1) ∷ []) (minus_of (cast 10 1 1) ∷ []) ∷ []) ∷ []
moved_between = refl

-- one that stays at a stage shard: both records in one packet
pub both_in_one : (step one (write 0 4 (updates (cast 10 1 5)))).sent
    ≡ (told 0 (first ++ updates (cast 10 1 5) ∷ []) [] ∷ []) ∷ (told 1 (first ++ updates (cast 10 1 5) ∷ []) (minus_of (cast 10 1 1) ∷ plus_of (cast 10 1 5) ∷ []) ∷ []) ∷ []
both_in_one = refl

-- what the log refuses changes nothing
pub refused_by_log : step one (write 0 4 (inserts (cast 10 2 1))) ≡ record { base = one; reply = Some (declined Duplicate); sent = [] ∷ [] ∷ [] }
refused_by_log = refl

-- a number that does not rise changes nothing and has no answer; another session has its own numbers
pub number_again : step one (write 0 3 (inserts (cast 12 2 1))) ≡ record { base = one; reply = None; sent = [] ∷ [] ∷ [] }
number_again = refl

pub number_of_other : (step one (write 1 0 (inserts (cast 12 2 1)))).reply ≡ Some (accepted 1)
number_of_other = refl

-- a request: the rows of the key, to the one who asks
pub piece_to_one : step one (request 1 (record { tag = 0; key = n 1 }))
    ≡ record { base = one; reply = None; sent = [] ∷ (stays 1 (Some (record { tag = 0; key = n 1; rows = cast 10 1 1 ∷ [] })) None ∷ []) ∷ [] }
piece_to_one = refl

-- a stage shard is sent no rows of another
pub piece_of_other : (step one (request 0 (record { tag = 0; key = n 1 }))).sent ≡ (stays 0 (Some (record { tag = 0; key = n 1; rows = [] })) None ∷ []) ∷ [] ∷ []
piece_of_other = refl

-- a marker goes to every stage shard
pub marker_to_each : step one (marker (record { session = 5; number = 8 }))
    ≡ record { base = one; reply = None; sent = (stays 0 None (Some (record { session = 5; number = 8 })) ∷ []) ∷ (stays 1 None (Some (record { session = 5; number = 8 })) ∷ []) ∷ [] }
marker_to_each = refl

-- a table outside the stage: its writes are accepted, and it sends nothing
abbrev pub with_notes : Layout
with_notes = record votes_counted { tables = stories 2 ∷ votes 2 ∷ notes_table 1 ∷ [] }

abbrev pub notes_shard : Base
notes_shard = record { plan = with_notes; base = 4; entries = []; authors = [] }

abbrev pub said : Done → List (List BasePacketView)
said d = d.sent

pub outside_accepted : (step notes_shard (write 0 0 (inserts (n 1 ∷ n 7 ∷ n 1 ∷ [])))).reply ≡ Some (accepted 0)
outside_accepted = refl

pub outside_silent : said (step notes_shard (write 0 0 (inserts (n 1 ∷ n 7 ∷ n 1 ∷ [])))) ≡ [] ∷ [] ∷ []
outside_silent = refl

pub outside_unmarked : said (step notes_shard (marker (record { session = 5; number = 8 }))) ≡ [] ∷ [] ∷ []
outside_unmarked = refl
