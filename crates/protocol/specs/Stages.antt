-- A stage shard, as far as keys go, and what one message makes it put out.
use Rattle.std.specs.Prelude.{ℕ, Bool, true, List, map, filter, Option, Some, None}
use Rattle.row.specs.Cells.{Datum, Cells, row_cmp, datum_cmp, cell_at, has}
use Rattle.row.specs.Bags.{sorted}
use Rattle.plan.specs.Layouts.{Layout, view_at}
use Rattle.plan.specs.Outputs.{keys_of}
use Rattle.model.specs.Queries.{Line, left}
use Rattle.partial.specs.States.{is_filled}
use Rattle.packet.specs.Readers.{Reader, is_of}
use Rattle.packet.specs.Messages.{Ask, BasePacketView, Sent}
use Rattle.packet.specs.Keys.{Keys}
use Rattle.packet.specs.Marks.{Gathering}

-- its line; its right side by key, or none where it holds all of it; the requests that wait for their answer, in order of
-- arrival; the keys that each view shard has asked for, where that is counted; the markers that have not come from all sources
pub record Stage : Type 0 where
  pub plan : Layout
  pub shard : ℕ
  pub line : Line
  pub right : Option Keys
  pub pending : List Ask
  pub asked : Option (List (List Datum))
  pub marks : List Gathering

-- a packet of source j, a request of a view shard, or an order to evict a stage key
pub data ToStage : Type 0 where
  packet : (source : ℕ) → BasePacketView → ToStage
  request : Ask → ToStage
  order : (key : Datum) → ToStage

-- the stage shard afterwards, the packets to each view shard and the requests to each source, in order
pub record Done : Type 0 where
  pub stage : Stage
  pub sent : List (List Sent)
  pub requests : List (List Ask)

-- ---- what it knows
-- all right rows of the stage key are here
abbrev pub knows : Option Keys → Datum → Bool
knows None x = true
knows (Some keys) x = is_filled (keys.at x)

-- the left rows, in order: all of them are here
abbrev pub lefts : Stage → List Cells
lefts s = sorted row_cmp (left s.plan s.shard s.line)

-- the left rows of a stage key
abbrev pub of_stage_key : Stage → Datum → List Cells
of_stage_key s x = filter (has s.plan.left.key x) (lefts s)

-- the stage keys behind key k of view i: those of its left rows, in their order
abbrev pub behind : Stage → ℕ → Datum → List Datum
behind s i k = map (λ l. cell_at l s.plan.left.key) (filter (has (view_at s.plan i).key k) (lefts s))

-- the reader's keys of these left rows, in order, each once
abbrev pub keys_for : Layout → List Cells → Reader → List Datum
keys_for p rows r = filter (λ k. is_of p r.view k r) (sorted datum_cmp (keys_of (view_at p r.view).key rows))
