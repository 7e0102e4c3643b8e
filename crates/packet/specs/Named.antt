-- Which keys an eviction names, and the keys that a view shard is counted to have asked for.
use Rattle.std.specs.Prelude.{not, List, [], ◌∷◌, filter, Option, Some, None}
use Rattle.row.specs.Cells.{Datum, same}
use Rattle.packet.specs.Readers.{Reader}
use Rattle.packet.specs.Messages.{Sent}
use Rattle.packet.specs.Keys.{is_among}

-- the evicted keys that are named: all of them, or, where it is counted what was asked for, those that were
abbrev pub named : Option (List Datum) → List Datum → List Datum
named None keys = keys
named (Some asked) keys = filter (is_among asked) keys

-- the keys with that of the piece
abbrev pub with_piece : Option Datum → List Datum → List Datum
with_piece None asked = asked
with_piece (Some k) asked = k ∷ filter (λ x. not (same k x)) asked

-- what was asked for after a packet: the keys that it evicts leave, then the key of its piece enters
abbrev pub asked_with : List Datum → Sent → List Datum
asked_with asked p = with_piece p.piece (filter (λ k. not (is_among p.evicts k)) asked)

-- after these packets
abbrev pub asked_after : List Datum → List Sent → List Datum
asked_after asked [] = asked
asked_after asked (p ∷ ps) = asked_after (asked_with asked p) ps

-- what each view shard has asked for, after these packets to each
abbrev pub asked_now : List (List Datum) → List (List Sent) → List (List Datum)
asked_now [] sent = []
asked_now (asked ∷ others) [] = asked ∷ others
asked_now (asked ∷ others) (ps ∷ rest) = asked_after asked ps ∷ asked_now others rest

-- something for each view shard, from what it has asked for, where that is counted
abbrev pub for_each : {X : Type 0} → (Option (List Datum) → Reader → X) → Option (List (List Datum)) → List Reader → List X
for_each f asked [] = []
for_each f None (r ∷ rs) = f None r ∷ for_each f None rs
for_each f (Some []) (r ∷ rs) = f (Some []) r ∷ for_each f (Some []) rs
for_each f (Some (asked ∷ others)) (r ∷ rs) = f (Some asked) r ∷ for_each f (Some others) rs
