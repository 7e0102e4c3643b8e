-- Events of a schedule, and their replies.
use Rattle.std.specs.Prelude.{ℕ, List, Option}
use Rattle.row.specs.Cells.{Datum, Cells}
use Rattle.row.specs.declared.refused.Refused.{Refused}
use Rattle.plan.specs.declared.domain.DomainId.{DomainId}
use Rattle.plan.specs.declared.domain.Edge.{Edge}
use Rattle.model.specs.Logs.{Change}
use Rattle.model.specs.Histories.{Lengths}

-- a call of a session, the delivery of the first message of an edge, an order to evict a key, a stop of a domain, or deliveries until all edges
-- are empty; tables and views by their names, an edge or a domain by what its text names, if it names one
pub data Event : Type 0 where
  write : (session : ℕ) → (table : List ℕ) → (entry : Change) → Event
  try_read : (session : ℕ) → (view : List ℕ) → (key : Datum) → Event
  want : (session : ℕ) → (view : List ℕ) → (key : Datum) → Event
  fence : (session : ℕ) → Event
  count : (session : ℕ) → (view : List ℕ) → Event
  deliver : Option Edge → Event
  evict_stage : (key : Datum) → Event
  evict_view : (view : List ℕ) → (key : Datum) → Event
  stop : Option DomainId → Event
  settle : Event

-- one for each event; the sessions that are listed are those whose fences have ended
pub data Reply : Type 0 where
  accepted : (table shard index : ℕ) → Reply
  refused : Refused → Reply
  hit : (rows : List Cells) → (cut : Lengths) → Reply
  miss : Reply
  wanted : Reply
  fence_sent : Reply
  asked : (requests : ℕ) → Reply
  delivered : Reply
  idle : Reply
  fenced : (session : ℕ) → Reply
  evicted : Reply
  stopped : Reply
  settled : (fenced : List ℕ) → Reply
  unsettled : (fenced : List ℕ) → Reply
