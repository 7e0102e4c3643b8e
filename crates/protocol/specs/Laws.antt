-- What holds of every schedule and of every step, beside the replies.
use Rattle.std.specs.Prelude.{◌≡◌, ℕ, ◌<◌, ◌≤◌, ◌+◌, Bool, true, List, [], ◌∷◌, length, map, Option, Some, None, slice_get, ◌&&◌, ◌++◌}
use mathlib.Core.List.{IsPrefix}
use Rattle.plan.specs.Layouts.{Layout, view_at}
use Rattle.plan.specs.Profile.{IsPlan}
use Rattle.plan.specs.Domains.{edges}
use Rattle.packet.specs.Messages.{Ask, BasePacketView, Sent}
use Rattle.packet.specs.Keys.{Keys, is_among, Ascends}
use Rattle.packet.specs.Truth.{Grows, IsTrueBase}
use Rattle.protocol.specs.Stages.{Stage, ToStage, keys_for}
use Rattle.protocol.specs.BaseSteps as on_base
use Rattle.protocol.specs.StageSteps as on_stage
use Rattle.protocol.specs.Views.{View, ToView, packet, want, order}
use Rattle.protocol.specs.ViewSteps as on_view
use Rattle.protocol.specs.Worlds.{Node, World, start}
use Rattle.protocol.specs.Events.{Event}
use Rattle.protocol.specs.Edges.{queue, Wire, wires, edge_of, reader_domain, reader_place, source_place}
use Rattle.protocol.specs.WorldSteps.{step, delivery}
use Rattle.std.specs.List.{list_any}
use Rattle.row.specs.Cells.{Datum, Cells, cell_at, same}
use Rattle.packet.specs.Readers.{Reader, is_of}
use Rattle.row.specs.Bags.{Each}
use Rattle.model.specs.Places.{layout_of, source_at}
use Rattle.plan.specs.declared.domain.DomainId.TheVariants as domain
use Rattle.protocol.specs.Bases.{last_number, Base, ToBase}
use Rattle.model.specs.Logs.{Change, lawful}

-- ---- edges
-- the edges by the places of their ends are the plan's, in its order
abbrev pub EveryEdge : Type 0
EveryEdge = (p : Layout) → IsPlan p → map (edge_of p) (wires p) ≡ edges p

-- where a base shard is found among the sources, and a view shard among the readers, it stands
pub record ArePlaces (p : Layout) : Type 0 where
  pub sources : (b j : ℕ) → source_place p b ≡ Some j → source_at p j ≡ b
  pub readers : (i j r : ℕ) → reader_place p i j ≡ Some r → reader_domain p r ≡ domain.View i j

-- so it is for every plan
abbrev pub EveryPlace : Type 0
EveryPlace = (p : Layout) → ArePlaces p

-- ---- packets in turn
-- the packet goes on from the front that the stage shard holds of its source
pub record IsNext (s : Stage) (j : ℕ) (k : BasePacketView) : Type 0 where
  pub from : slice_get s.line j ≡ Some k.from
  pub grows : IsPrefix k.from k.to

-- the packet goes on from the line that the view shard holds of its stage shard
pub record IsNextSent (v : View) (s : ℕ) (x : Sent) : Type 0 where
  pub from : slice_get v.cut s ≡ Some x.from
  pub grows : Grows x.from x.to

-- on each edge to a stage shard that runs the first packet is next for it
abbrev pub StagesInTurn : World → Type 0
StagesInTurn w = (s j : ℕ) (n : Node Stage) (k : BasePacketView) (ks : List BasePacketView) → slice_get w.stages s ≡ Some n → n.runs ≡ true → queue w.to_stage s j ≡ k ∷ ks → IsNext n.is j k

-- and so on each edge to a view shard that runs
abbrev pub ViewsInTurn : World → Type 0
ViewsInTurn w = (r s : ℕ) (n : Node View) (x : Sent) (xs : List Sent) → slice_get w.views r ≡ Some n → n.runs ≡ true → queue w.to_view r s ≡ x ∷ xs → IsNextSent n.is s x

-- an event, or the delivery of the first message of one edge, of which a settle makes many
pub data Move : Type 0 where
  happens : Event → Move
  comes : Wire → Move

-- the world after these
abbrev pub world_after : World → List Move → World
world_after w [] = w
world_after w (happens e ∷ rest) = world_after (step w e).world rest
world_after w (comes wire ∷ rest) = world_after (delivery w wire).world rest

-- events and deliveries have led to the world from the empty world of a plan, with the right side by key or held in full
pub record IsReached (w : World) : Type 0 where
  pub by_key : Bool
  pub plan : Layout
  pub good : IsPlan plan
  pub moves : List Move
  pub after : w ≡ world_after (start by_key plan) moves

-- for every plan and every schedule no packet is out of turn
abbrev pub EveryTurn : Type 0
EveryTurn = (w : World) → IsReached w → StagesInTurn w × ViewsInTurn w

-- ---- packets of base shards
-- each of the further entries is lawful at the front before it
abbrev pub AreLawful : ℕ → List Change → List Change → Type 0
AreLawful key front [] = Unit {0}
AreLawful key front (e ∷ rest) = (lawful key front e ≡ true) × AreLawful key (front ++ e ∷ []) rest

-- where each entry of a base shard's log is lawful, each packet that it puts out is true
abbrev pub EveryBasePacket : Type 0
EveryBasePacket = (b : Base) (m : ToBase) → AreLawful (layout_of b.plan b.base).key [] b.entries → Each (Each IsTrueBase) (on_base.step b m).sent

-- ---- caps
-- how many keys are filled, where they are kept by key
abbrev pub filled_count : Option Keys → ℕ
filled_count None = 0
filled_count (Some keys) = length keys.order

-- after each message a stage shard with no request that waits has no more filled right keys than its cap
abbrev pub StageCap : Type 0
StageCap = (s : Stage) (m : ToStage) → let t = (on_stage.step s m).stage in t.pending ≡ [] → filled_count t.right ≤ t.plan.cap

-- a view shard that has no more filled keys than its cap stays so
abbrev pub ViewCap : Type 0
ViewCap = (v : View) (m : ToView) → let cap = (view_at v.plan v.view).cap in length v.keys.order ≤ cap → length (on_view.step v m).view.keys.order ≤ cap

-- ---- keys that are evicted
-- the keys are in the order of values, each once, and they are those of the view shard's keys that one of these left rows has
pub record AreKeys (p : Layout) (rows : List Cells) (r : Reader) (ks : List Datum) : Type 0 where
  pub order : Ascends ks
  pub each : (k : Datum) → is_among ks k ≡ (is_of p r.view k r && list_any (λ l. same (cell_at l (view_at p r.view).key) k) rows)

-- such are the keys that a packet evicts for left rows
abbrev pub EveryEviction : Type 0
EveryEviction = (p : Layout) (rows : List Cells) (r : Reader) → AreKeys p rows r (keys_for p rows r)

-- ---- counts
-- how many there are in all
abbrev pub total : List (List Ask) → ℕ
total [] = 0
total (asks ∷ rest) = length asks + total rest

-- the message is of a stage shard of the plan, or of none
abbrev pub IsOf : Layout → ToView → Type 0
IsOf p (packet s x) = s < p.stages
IsOf p (want k) = Unit {0}
IsOf p (order k) = Unit {0}

-- a view shard counts each request that it sends, up to the greatest number
abbrev pub AreCounted : Type 0
AreCounted = (v : View) (m : ToView) → IsOf v.plan m → v.asked ≤ last_number → (on_view.step v m).view.asked ≡ on_view.counted v.asked (total (on_view.step v m).requests)
