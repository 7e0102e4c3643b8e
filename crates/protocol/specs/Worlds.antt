-- All domains and edges in one value, as far as keys go.
use Rattle.std.specs.Prelude.{ℕ, Bool, true, false, List, [], map, length, replicate, Option, Some, None}
use Rattle.std.specs.List.{range_with_len}
use Rattle.plan.specs.Layouts.{SideLayout, Layout}
use Rattle.model.specs.Places.{base_count, sources}
use Rattle.model.specs.Queries.{Line}
use Rattle.model.specs.Histories.{Lengths}
use Rattle.model.specs.Legal.{most_sessions}
use Rattle.packet.specs.Readers.{Reader, readers}
use Rattle.packet.specs.Messages.{Ask, BasePacketView, Sent}
use Rattle.packet.specs.Keys.{Keys, no_keys}
use Rattle.protocol.specs.Bases.{Base}
use Rattle.protocol.specs.Stages.{Stage}
use Rattle.protocol.specs.Views.{View}

-- a domain, and whether it runs
pub record Node (X : Type 0) : Type 0 where
  pub is : X
  pub runs : Bool

-- a fence that has not ended: its number, and the cut with which each view shard has acknowledged it
pub record Fence : Type 0 where
  pub number : ℕ
  pub acks : List (Option Lengths)

-- a session: the number of its next write or fence, its floor at each view shard, its open fence
pub record Caller : Type 0 where
  pub number : ℕ
  pub floors : List Lengths
  pub fence : Option Fence

-- the domains; the queue of each edge, by its receiver and then by its sender; the sessions
pub record World : Type 0 where
  pub plan : Layout
  pub bases : List (Node Base)
  pub stages : List (Node Stage)
  pub views : List (Node View)
  pub to_stage : List (List (List BasePacketView))
  pub to_view : List (List (List Sent))
  pub from_view : List (List (List Ask))
  pub to_base : List (List (List Ask))
  pub callers : List Caller

-- ---- the empty world
-- an empty front of each source
abbrev pub first_line : Layout → Line
first_line p = map (λ b. []) (sources p)

-- base shard b with an empty log
abbrev pub first_base : Layout → ℕ → Node Base
first_base p b = record { is = record { plan = p; base = b; entries = []; authors = [] }; runs = true }

-- a right side, where there is one, is by key from the start, with no key filled, or held in full
abbrev pub first_right : (by_key : Bool) → Option SideLayout → Option Keys
first_right false side = None
first_right true None = None
first_right true (Some side) = Some no_keys

-- stage shard s, which knows nothing yet
abbrev pub first_stage : (by_key : Bool) → Layout → ℕ → Node Stage
first_stage by_key p s = record {
  is = record { plan = p; shard = s; line = first_line p; right = first_right by_key p.right; pending = []; asked = None; marks = [] };
  runs = true;
}

-- a view shard, with no key filled
abbrev pub first_view : Layout → Reader → Node View
first_view p r = record {
  is = record { plan = p; view = r.view; shard = r.shard; cut = replicate p.stages (first_line p); keys = no_keys; asked = 0; marks = [] };
  runs = true;
}

-- empty queues from so many senders to each of so many receivers
abbrev pub no_queues : {X : Type 0} → ℕ → ℕ → List (List (List X))
no_queues receivers senders = replicate receivers (replicate senders [])

-- a session that has not called
abbrev pub first_caller : Layout → Caller
first_caller p = record { number = 0; floors = map (λ r. []) (readers p); fence = None }

-- all domains, of which nothing has been asked; the right side is by key or held in full
abbrev pub start : (by_key : Bool) → Layout → World
start by_key p = record {
  plan = p;
  bases = map (first_base p) (range_with_len 0 (base_count p));
  stages = map (first_stage by_key p) (range_with_len 0 p.stages);
  views = map (first_view p) (readers p);
  to_stage = no_queues p.stages (length (sources p));
  to_view = no_queues (length (readers p)) p.stages;
  from_view = no_queues p.stages (length (readers p));
  to_base = no_queues (length (sources p)) p.stages;
  callers = replicate most_sessions (first_caller p);
}
