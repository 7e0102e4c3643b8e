-- How replies are printed.
use Rattle.std.specs.Prelude.{ℕ, List, [], ◌∷◌, ◌++◌, length, flat_map, codes}
use Rattle.std.specs.Fmt.{decimal}
use Rattle.row.specs.Cells.{Cells}
use Rattle.row.specs.Printed.{printed_row}
use Rattle.row.specs.Refusals.{number_of, name_of}
use Rattle.row.specs.declared.refused.Refused.{Refused}
use Rattle.plan.specs.Layouts.{Layout, table_at}
use Rattle.model.specs.Histories.{Lengths}
use Rattle.model.specs.Printed.{printed_cut}
use Rattle.protocol.specs.Events.{Reply, accepted, refused, hit, miss, wanted, fence_sent, asked, delivered, idle, fenced, evicted, stopped, settled, unsettled}

-- the end of a line
abbrev pub line_feed : List ℕ
line_feed = 10 ∷ []

-- a refusal
abbrev pub printed_refusal : Refused → List ℕ
printed_refusal r = codes "refused " ++ (decimal (number_of r) ++ (codes " " ++ (name_of r ++ line_feed)))

-- a fence that has ended
abbrev pub printed_fence : ℕ → List ℕ
printed_fence session = codes " fenced " ++ decimal session

-- a settle, and the fences that have ended in it
abbrev pub printed_settle : List ℕ → List ℕ → List ℕ
printed_settle how sessions = how ++ (flat_map printed_fence sessions ++ line_feed)

-- a row, in a line
abbrev pub row_line : Cells → List ℕ
row_line row = printed_row row ++ line_feed

-- the number of rows and the cut, and a line for each row
abbrev pub printed_hit : List Cells → Lengths → List ℕ
printed_hit rows cut = (codes "rows " ++ (decimal (length rows) ++ (codes " cut " ++ (printed_cut cut ++ line_feed)))) ++ flat_map row_line rows

-- a line; for a hit one more for each row
abbrev pub printed_reply : Layout → Reply → List ℕ
printed_reply p (accepted table shard index) = codes "accepted " ++ ((table_at p table).name ++ (codes "." ++ (decimal shard ++ (codes " " ++ (decimal index ++ line_feed)))))
printed_reply p (refused r) = printed_refusal r
printed_reply p (hit rows cut) = printed_hit rows cut
printed_reply p miss = codes "miss" ++ line_feed
printed_reply p wanted = codes "wanted" ++ line_feed
printed_reply p fence_sent = codes "fence sent" ++ line_feed
printed_reply p (asked requests) = codes "asked " ++ (decimal requests ++ line_feed)
printed_reply p delivered = codes "delivered" ++ line_feed
printed_reply p idle = codes "idle" ++ line_feed
printed_reply p (fenced session) = codes "fenced " ++ (decimal session ++ line_feed)
printed_reply p evicted = codes "evicted" ++ line_feed
printed_reply p stopped = codes "stopped" ++ line_feed
printed_reply p (settled sessions) = printed_settle (codes "settled") sessions
printed_reply p (unsettled sessions) = printed_settle (codes "unsettled") sessions

-- the replies, one after the other
abbrev pub printed_replies : Layout → List Reply → List ℕ
printed_replies p replies = flat_map (printed_reply p) replies
