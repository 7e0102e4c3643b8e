-- A base shard, and what one message makes it put out.
use Rattle.std.specs.Prelude.{ℕ, ◌+◌, ◌==◌, cond, List, [], ◌∷◌, flat_map, Option}
use Rattle.row.specs.declared.refused.Refused.{Refused}
use Rattle.plan.specs.Layouts.{Layout}
use Rattle.model.specs.Logs.{Change}
use Rattle.model.specs.Histories.{Author, last_or}
use Rattle.packet.specs.Messages.{Ask, BasePacketView, Mark}

-- the greatest number of 64 bits, which no call has
abbrev pub last_number : ℕ
last_number = 18446744073709551615

-- its number, the entries of its log, and the author of each
pub record Base : Type 0 where
  pub plan : Layout
  pub base : ℕ
  pub entries : List Change
  pub authors : List Author

-- a write under a session's number, a request of a stage shard, or a marker
pub data ToBase : Type 0 where
  write : (session number : ℕ) → (entry : Change) → ToBase
  request : (stage : ℕ) → Ask → ToBase
  marker : Mark → ToBase

-- accepted at an index, or refused
pub data Verdict : Type 0 where
  accepted : (index : ℕ) → Verdict
  declined : Refused → Verdict

-- the base shard afterwards, its answer to a write, and the packets to each stage shard, in order
pub record Done : Type 0 where
  pub base : Base
  pub reply : Option Verdict
  pub sent : List (List BasePacketView)

-- one more than the author's number, where it is the session
abbrev pub number_after : ℕ → Author → List ℕ
number_after s a = cond (a.session == s) ((a.number + 1) ∷ []) []

-- the least number that the session's next write may have: one more than its last in the log
abbrev pub next_of : ℕ → List Author → ℕ
next_of s authors = last_or 0 (flat_map (number_after s) authors)
