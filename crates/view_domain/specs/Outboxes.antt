-- What a view domain puts out.
use Rattle.std.specs.Prelude.{◌≡◌, ℕ, List, [], Option, Some, None, slice_set}
use Rattle.model.specs.Fronts.{LogView}
use Rattle.model.specs.Queries.{Line}
use Rattle.packet.specs.Lines.{entries_of}
use Rattle.packet.specs.Messages.{Ask, Piece, none_of}
use Rattle.packet.specs.Outboxes.{EdgeView, packets_on}
use Rattle.packet.specs.declared.request.Marker.{Marker}
use Rattle.view_domain.specs.declared.shown.KeyChange.{KeyChange}

-- one operation on the shown copy: the new line of a stage shard, if it has one, what becomes of keys, and how many requests have been sent
pub record ShownView : Type 0 where
  pub stage : ℕ
  pub line : Option (List LogView)
  pub keys : List KeyChange
  pub asked : ℕ

-- the edge to each stage shard, the operation on the shown copy, and the fence that is acknowledged with the cut
pub record OutboxView : Type 0 where
  pub requests : List (EdgeView Ask)
  pub shown : Option ShownView
  pub ack : Option Marker

-- nothing is put out
pub record IsClear (out : OutboxView) : Type 0 where
  pub requests : packets_on out.requests ≡ none_of out.requests
  pub shown : out.shown ≡ None
  pub ack : out.ack ≡ None

-- the cut with the line of stage shard s, if there is one
abbrev pub put_line : ℕ → Option (List LogView) → List Line → List Line
put_line s None cut = cut
put_line s (Some line) cut = slice_set cut s (entries_of line)

-- the line that a packet ends at, where it may have moved: one with a piece or a marker moves none
abbrev pub new_line : Option Piece → Option Marker → List LogView → Option (List LogView)
new_line None None line = Some line
new_line None (Some m) line = None
new_line (Some piece) m line = None

-- what is told of keys; where there is no operation, nothing
abbrev pub keys_told : Option ShownView → List KeyChange
keys_told None = []
keys_told (Some s) = s.keys

-- the new line that it tells, if it tells one
abbrev pub line_told : Option ShownView → Option (List LogView)
line_told None = None
line_told (Some s) = s.line

-- the cut that is shown after it
abbrev pub cut_after : Option ShownView → List Line → List Line
cut_after None cut = cut
cut_after (Some s) cut = put_line s.stage s.line cut

-- and the count of requests
abbrev pub asked_after : Option ShownView → ℕ → ℕ
asked_after None asked = asked
asked_after (Some s) asked = s.asked
