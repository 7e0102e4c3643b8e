-- Every schedule: the replies tell of a legal history.
use Rattle.std.proofs.Common.{List, [], ◌∷◌, ◌++◌, slice_get, slice_index_or, Some, refl, ap, sym, ◌∙◌, subst}
use Rattle.plan.specs.Layouts.{Layout, view_named}
use Rattle.model.specs.Histories.{Item}
use Rattle.model.specs.Legal.{IsLegal, most_sessions}
use Rattle.model.specs.Refusals.{stage_refusal, read_refusal}
use Rattle.protocol.specs.Worlds.{World, start, Node}
use Rattle.protocol.specs.Events.{Event, write, try_read, want, fence, count, deliver, evict_stage, evict_view, stop, settle, Reply}
use Rattle.protocol.specs.Theorem.{Tell, EverySchedule}
use Rattle.protocol.specs.WorldSteps.{most_rounds, step, delivery, replies}
use Rattle.protocol.specs.Edges.{wire_of}
use mathlib.Core.List.{IsPrefix}
use Rattle.packet.specs.Truth.{Grows}
use Rattle.protocol.proofs.Leading.{IsRun, IsBaseRun}
use Rattle.protocol.specs.Stages.{Stage}
use Rattle.protocol.specs.Views.{View}
use Rattle.protocol.proofs.Wired.{Good, Led, Three, source_logs, lines_of}
use Rattle.protocol.proofs.Lists.{pair_at}
use Rattle.protocol.proofs.EdgeLaws.{three_next}
use Rattle.protocol.proofs.Start.{start_good}
use Rattle.protocol.proofs.Writes.{Tells, write_tells}
use Rattle.protocol.proofs.Calls.{read_tells, want_tells, count_tells, fence_tells, evicts_stage, evicts_view, stop_tells, deliver_tells, settle_tells}
use Rattle.protocol.specs.Laws.{StagesInTurn, ViewsInTurn, Move, happens, comes, world_after, IsReached, EveryTurn}
use Rattle.protocol.proofs.Settles.{delivers}

-- one event: its reply tells of items that are allowed, and all holds of the world after it
pub step_tells : (w : World) (past : List Event) (h : List Item) (e : Event) → Good w past h → Tells w past h e (step w e)
step_tells w past h (write se table e) g = write_tells w past h se (slice_get w.callers se) table e refl g
step_tells w past h (try_read se view k) g = read_tells w past h se (slice_get w.callers se) view k refl g
step_tells w past h (want se view k) g = want_tells w past h se view k g (slice_get w.callers se)
step_tells w past h (fence se) g = fence_tells w past h se (slice_get w.callers se) refl g
step_tells w past h (count se view) g = count_tells w past h se view g (slice_get w.callers se)
step_tells w past h (deliver edge) g = deliver_tells w past h g edge (wire_of w.plan edge)
step_tells w past h (evict_stage k) g = evicts_stage w past h (evict_stage k) (λ se. refl) (λ b. refl) (λ r. refl) refl k g (stage_refusal w.plan k)
step_tells w past h (evict_view view k) g = evicts_view w past h (evict_view view k) (λ se. refl) (λ b. refl) (λ r. refl) refl k g (view_named w.plan view) (read_refusal w.plan (view_named w.plan view) k)
step_tells w past h (stop d) g = stop_tells w past h g d
step_tells w past h settle g = settle_tells w past h g most_rounds

-- from a world of which all holds on
abbrev IsTold : Layout → List Event → List Item → List Event → List Reply → Type 0
IsTold p past h events rs = (all : List Item) × Tell p past h events rs all × IsLegal p most_sessions all

all_told : (events : List Event) (w : World) (past : List Event) (h : List Item) → Good w past h → IsTold w.plan past h events (replies w events)
all_told [] w past h g = (h, refl, g.history.legal)
all_told (e ∷ es) w past h g =
    let t = step_tells w past h e g in
    let r = subst (λ p. IsTold p (past ++ e ∷ []) (h ++ t.is) es (replies (step w e).world es)) t.kept.plan (all_told es (step w e).world (past ++ e ∷ []) (h ++ t.is) t.kept.good) in
    (r.0, (t.is, t.told, r.1), r.2)

pub every_schedule : EverySchedule
every_schedule by_key p g events =
    let r : IsTold p [] [] events (replies (start by_key p) events) = all_told events (start by_key p) [] [] (start_good by_key p g) in
    (r.0, (r.1, r.2))

-- ---- packets in turn
-- all holds of a world for some events and some history
pub record IsGood (w : World) : Type 0 where
  pub past : List Event
  pub history : List Item
  pub good : Good w past history

moved_good : (ms : List Move) (w : World) → IsGood w → IsGood (world_after w ms)
moved_good [] w g = g
moved_good (happens e ∷ ms) w g =
    let t = step_tells w g.past g.history e g.good in
    moved_good ms (step w e).world (record { past = g.past ++ e ∷ []; history = g.history ++ t.is; good = t.kept.good })
moved_good (comes wire ∷ ms) w g =
    let t = delivers w g.past g.history wire g.good in
    moved_good ms (delivery w wire).world (record { past = g.past; history = g.history ++ t.is; good = t.kept.good })

pub reached_good : (w : World) → IsReached w → IsGood w
reached_good w r = subst IsGood (sym r.after) (moved_good r.moves (start r.by_key r.plan) (record { past = []; history = []; good = start_good r.by_key r.plan r.good }))

-- a packet that is the first for a domain that runs begins at the front that the domain holds
stage_next : (w : World) → IsGood w → StagesInTurn w
stage_next w g s j n k ks at runs q =
    let inbox = slice_index_or w.to_stage s [] in
    let t = subst (λ b. Three (Led IsBaseRun IsPrefix b) n.is.line inbox (source_logs w.plan w.bases)) runs
    (pair_at (λ (n : Node Stage) inbox. Three (Led IsBaseRun IsPrefix n.runs) n.is.line inbox (source_logs w.plan w.bases)) w.stages w.to_stage s n [] at g.good.wired.lines) in
    let x = three_next IsBaseRun IsPrefix n.is.line inbox (source_logs w.plan w.bases) j k ks q t in
    let l = x.3 in
    record { from = x.2 ∙ ap Some (sym l.0); grows = l.1.grows }

view_next : (w : World) → IsGood w → ViewsInTurn w
view_next w g r s n x xs at runs q =
    let inbox = slice_index_or w.to_view r [] in
    let t = subst (λ b. Three (Led IsRun Grows b) n.is.cut inbox (lines_of w.stages)) runs
    (pair_at (λ (n : Node View) inbox. Three (Led IsRun Grows n.runs) n.is.cut inbox (lines_of w.stages)) w.views w.to_view r n [] at g.good.wired.cuts) in
    let k = three_next IsRun Grows n.is.cut inbox (lines_of w.stages) s x xs q t in
    let l = k.3 in
    record { from = k.2 ∙ ap Some (sym l.0); grows = l.1 }

pub every_turn : EveryTurn
every_turn w r = let g = reached_good w r in (stage_next w g, view_next w g)
