-- What a session notes of the answers to its writes. No public clause cites this.
use Rattle.std.specs.Prelude.{◌≡◌, ℕ, suc, ◌<◌, List, length, Option, Some, None, slice_get, slice_set}
use Rattle.protocol.specs.Bases.{last_number, Base, Verdict, accepted, declined}
use Rattle.protocol.specs.Worlds.{Node}
use Rattle.schedule.specs.Sessions.{Session}

-- each entry of a base shard has an author
abbrev pub AreLogged : List (Node Base) → Type 0
AreLogged bases = (b : ℕ) (n : Node Base) → slice_get bases b ≡ Some n → length n.is.authors ≡ length n.is.entries

-- one more than the index of an accepted entry is a number of the program
abbrev pub IsSmall : Option Verdict → Type 0
IsSmall None = Unit {0}
IsSmall (Some (accepted i)) = i < last_number
IsSmall (Some (declined r)) = Unit {0}

-- the session notes where its entry stands in base shard b, if it was accepted
abbrev pub noted : ℕ → Option Verdict → Session → Session
noted b None s = s
noted b (Some (accepted i)) s = record s { own = slice_set s.own b (suc i) }
noted b (Some (declined r)) s = s
