-- A view shard, as far as keys go, and what one message makes it put out.
use Rattle.std.specs.Prelude.{ℕ, List}
use Rattle.row.specs.Cells.{Datum}
use Rattle.plan.specs.Layouts.{Layout}
use Rattle.model.specs.Queries.{Line}
use Rattle.packet.specs.Messages.{Ask, Sent, Mark}
use Rattle.packet.specs.Keys.{Keys}
use Rattle.packet.specs.Marks.{Gathering}

-- a line for each stage shard, its keys, how many requests it has sent, the markers that have not come from all stage shards
pub record View : Type 0 where
  pub plan : Layout
  pub view : ℕ
  pub shard : ℕ
  pub cut : List Line
  pub keys : Keys
  pub asked : ℕ
  pub marks : List Gathering

-- a packet of stage shard s, a key that a session wants, or an order to evict a key
pub data ToView : Type 0 where
  packet : (stage : ℕ) → Sent → ToView
  want : (key : Datum) → ToView
  order : (key : Datum) → ToView

-- the view shard afterwards, the requests to each stage shard, and the fences that it acknowledges with its cut
pub record Done : Type 0 where
  pub view : View
  pub requests : List (List Ask)
  pub acks : List Mark
