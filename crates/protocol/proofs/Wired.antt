-- What holds of all edges at once, between any two steps.
use Rattle.std.specs.Prelude.{◌≡◌, ℕ, ◌<◌, Bool, not, cond, List, [], ◌∷◌, map, length, Option, Some, None, IfSome, slice_get, slice_index_or}
use mathlib.Core.List.{IsPrefix}
use Rattle.row.specs.Bags.{Each}
use Rattle.plan.specs.Layouts.{Layout, view_at}
use Rattle.plan.specs.Profile.{IsPlan}
use Rattle.model.specs.Logs.{Change}
use Rattle.model.specs.Places.{base_count, sources}
use Rattle.model.specs.Queries.{Line}
use Rattle.model.specs.Histories.{Item, Author, Lengths, IsSame, log_of, authors_of, floor_of}
use Rattle.model.specs.Cuts.{IsAtMost}
use Rattle.model.specs.Legal.{IsLegal, most_sessions}
use Rattle.packet.specs.Readers.{Reader, readers}
use Rattle.packet.specs.Truth.{Pointwise, Grows, IsFrontOf}
use Rattle.protocol.proofs.Leading.{IsRun, IsBaseRun}
use Rattle.protocol.specs.Bases.{Base}
use Rattle.protocol.specs.Stages.{Stage}
use Rattle.protocol.specs.Views.{View}
use Rattle.protocol.specs.Worlds.{World, Node, Fence, Caller}
use Rattle.protocol.specs.Edges.{place_or, reader_place}
use Rattle.protocol.specs.WorldSteps.{lengths_of}
use Rattle.protocol.specs.Events.{Event}
use Rattle.protocol.specs.Theorem.{number_in, has_stopped}

-- one of each of three lists
abbrev pub Three : {X Y Z : Type 0} → (X → Y → Z → Type 0) → List X → List Y → List Z → Type 0
Three R [] [] [] = Unit {0}
Three R (x ∷ xs) (y ∷ ys) (z ∷ zs) = R x y z × Three R xs ys zs
Three R xs ys zs = ⊥

module _ {F P : Type 0} (Run : F → List P → F → Type 0) (Before : F → F → Type 0) where
  -- a receiver that runs is led by its queue to where the sender is; one that has stopped is not ahead of it
  abbrev pub Led : Bool → F → List P → F → Type 0
  Led runs front queue last = cond runs (Run front queue last) (Before front last)

  -- so it is on each edge to the nodes, which hold these fronts
  abbrev pub Edges : {X : Type 0} → (X → List F) → List (Node X) → List (List (List P)) → List F → Type 0
  Edges held nodes inboxes senders = Pointwise (λ n inbox. Three (Led n.runs) (held n.is) inbox senders) nodes inboxes

-- the entries of the sources' logs
abbrev pub entries_in : Option (Node Base) → List Change
entries_in None = []
entries_in (Some n) = n.is.entries

abbrev pub entries_at : List (Node Base) → ℕ → List Change
entries_at bases b = entries_in (slice_get bases b)

abbrev pub source_logs : Layout → List (Node Base) → List (List Change)
source_logs p bases = map (entries_at bases) (sources p)

abbrev pub lines_of : List (Node Stage) → List Line
lines_of stages = map (λ (n : Node Stage). n.is.line) stages

-- the numbers of a session's entries are below its next
abbrev pub IsNumbered : List Caller → Author → Type 0
IsNumbered callers a = (c : Caller) → slice_get callers a.session ≡ Some c → a.number < c.number

-- the base shard has its number, and its log
pub record IsBase (p : Layout) (callers : List Caller) (b : ℕ) (n : Node Base) : Type 0 where
  pub plan : n.is.plan ≡ p
  pub base : n.is.base ≡ b
  pub range : b < base_count p
  pub log : IsFrontOf p b n.is.entries
  pub authors : length n.is.authors ≡ length n.is.entries
  pub numbers : Each (IsNumbered callers) n.is.authors

abbrev pub AreBases : Layout → List Caller → List (Node Base) → Type 0
AreBases p callers bases = (b : ℕ) (n : Node Base) → slice_get bases b ≡ Some n → IsBase p callers b n

-- a cut of a session at a view shard is at most the view shard's
abbrev pub IsFloor : Node View → Lengths → Type 0
IsFloor n floor = IsAtMost floor (lengths_of n.is.cut)

abbrev pub IsAck : Node View → Option Lengths → Type 0
IsAck n ack = IfSome ack (IsFloor n)

abbrev pub AreAcks : List (Node View) → Option Fence → Type 0
AreAcks views fence = IfSome fence (λ (f : Fence). Pointwise IsAck views f.acks)

pub record IsCaller (views : List (Node View)) (c : Caller) : Type 0 where
  pub floors : Pointwise IsFloor views c.floors
  pub acks : AreAcks views c.fence

abbrev pub reader_at : ℕ → ℕ → Reader
reader_at i j = record { view = i; shard = j }

abbrev pub readers_in : List (Node View) → List Reader
readers_in views = map (λ (n : Node View). reader_at n.is.view n.is.shard) views

-- base shards, stage shards and view shards are those of the plan; each queue leads from its receiver to its sender;
-- no floor and no acknowledged cut is above its view shard's
pub record Wired (w : World) : Type 0 where
  pub good : IsPlan w.plan
  pub bases : AreBases w.plan w.callers w.bases
  pub counted : length w.bases ≡ base_count w.plan
  pub staged : length w.stages ≡ w.plan.stages
  pub planned : Each (λ (n : Node Stage). n.is.plan ≡ w.plan) w.stages
  pub viewed : readers_in w.views ≡ readers w.plan
  pub lines : Edges IsBaseRun IsPrefix (λ (s : Stage). s.line) w.stages w.to_stage (source_logs w.plan w.bases)
  pub cuts : Edges IsRun Grows (λ (v : View). v.cut) w.views w.to_view (lines_of w.stages)
  pub callers : Each (IsCaller w.views) w.callers
  pub sixteen : length w.callers ≡ most_sessions

-- the sessions are these
abbrev pub with_callers : World → List Caller → World
with_callers w callers = record w { callers = callers }

-- ---- the history so far
pub record IsLogOf (h : List Item) (b : ℕ) (n : Node Base) : Type 0 where
  pub log : log_of b h ≡ n.is.entries
  pub authors : authors_of b h ≡ n.is.authors

-- the floors by reader are those of the history
abbrev pub AreFloors : Layout → ℕ → List Item → List Lengths → Type 0
AreFloors p se h floors = (i j : ℕ) → i < length p.views → j < (view_at p i).shards → IsSame (floor_of p se i j h) (slice_index_or floors (place_or (reader_place p i j)) [])

-- the history is legal, and has the logs of the base shards and the floors of the sessions
pub record IsHistory (p : Layout) (bases : List (Node Base)) (callers : List Caller) (h : List Item) : Type 0 where
  pub legal : IsLegal p most_sessions h
  pub logs : (b : ℕ) (n : Node Base) → slice_get bases b ≡ Some n → IsLogOf h b n
  pub floors : (se : ℕ) (c : Caller) → slice_get callers se ≡ Some c → AreFloors p se h c.floors

-- the sessions have called so often, and the base shards that run were not stopped
pub record IsPast (p : Layout) (bases : List (Node Base)) (callers : List Caller) (past : List Event) : Type 0 where
  pub numbers : (se : ℕ) (c : Caller) → slice_get callers se ≡ Some c → c.number ≡ number_in se past
  pub stops : (b : ℕ) (n : Node Base) → slice_get bases b ≡ Some n → not n.runs ≡ has_stopped p b past

-- ---- all that holds of a world, after these events, with this history
pub record Good (w : World) (past : List Event) (h : List Item) : Type 0 where
  pub wired : Wired w
  pub history : IsHistory w.plan w.bases w.callers h
  pub events : IsPast w.plan w.bases w.callers past
