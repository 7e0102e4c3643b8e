-- What a stage shard holds, and what a part of a step makes of it.
use Rattle.std.specs.Prelude.{◌≡◌, ◌<◌, ◌∷◌, ◌||◌, ℕ, Bool, cond, drop, false, not, true, IsSome, length, List, [], map, None, Option, Some, slice_get}
use Rattle.std.specs.List.{list_all}
use Rattle.std.specs.Option.{is_some}
use Rattle.row.specs.Cells.{Datum, datum_of, row_cmp}
use Rattle.row.specs.Bags.{Each, IsAlike}
use Rattle.row.specs.declared.value.Value.{Value}
use Rattle.plan.specs.Layouts.{Layout, SideLayout}
use Rattle.model.specs.Fronts.{LogView}
use Rattle.model.specs.Places.{side_count, source_at, sources}
use Rattle.model.specs.Queries.{Line, left}
use Rattle.ops.specs.SideRows.{Rows}
use Rattle.partial.specs.Sums.{sum_of_bags}
use Rattle.partial.specs.Truth.{IsTrueOf}
use Rattle.packet.specs.Lines.{AreOf, entries_of}
use Rattle.packet.specs.Marks.{MarksView}
use Rattle.packet.specs.Keys.{Keys}
use Rattle.packet.specs.Messages.{Ask, BasePacketView, StagePacketView}
use Rattle.packet.specs.Outboxes.{EdgeView, packets_on}
use Rattle.packet.specs.Readers.{Reader, is_of, readers, view_of}
use Rattle.packet.specs.Truth.{IsLine, Pointwise, right_shares, sent_of}
use Rattle.protocol.specs.StageSteps.{put, right_count, unknown, with_piece}
use Rattle.protocol.specs.Stages.{Done, Stage, ToStage, behind, knows, of_stage_key, order, packet, request}
use Rattle.right_rows.specs.Rights.{keys_in, state_in}
use Rattle.stage_sides.specs.Held.{AreFound, Held}
use Rattle.stage_sides.specs.Sides.{is_open}
use Rattle.row.specs.declared.record.Record.{Record}
use Rattle.stage_steps.specs.Outboxes.{OutboxView}
use Rattle.stage_steps.specs.Sides.{names_of}
use Rattle.stage_steps.specs.Told.{perhaps, told_if}

-- a front of each source, its rows, the requests that wait, and the markers that have not come from all sources
pub record Shard : Type 0 where
  pub plan : Layout
  pub shard : ℕ
  pub line : List LogView
  pub rows : Held
  pub pending : List Ask
  pub marks : MarksView

-- as far as keys go
abbrev pub stage_of : Shard → Stage
stage_of x = record { plan = x.plan; shard = x.shard; line = entries_of x.line; right = keys_in x.rows.right; pending = x.pending; asked = None; marks = x.marks.waiting }

-- ---- the truth over its line
-- the right side is by stage key, and what is kept at each is true of the parts that the right sources have at these fronts; with no right side there is none
abbrev pub HoldsRight : Layout → ℕ → Option SideLayout → Line → Rows → Type 0
HoldsRight p s None fronts right = right.keys ≡ None
HoldsRight p s (Some side) fronts right = IsSome right.keys × (right.sources ≡ right_count p) × ((k : Value) → IsTrueOf sum_of_bags (right_shares p s side (datum_of k) fronts) (state_in right (datum_of k)))

-- its rows are those of stage shard s over the line
pub record HoldsRows (p : Layout) (s : ℕ) (line : Line) (rows : Held) : Type 0 where
  pub plan : rows.plan ≡ p
  pub found : AreFound rows
  pub lefts : IsAlike row_cmp rows.lefts (left p s line)
  pub right : HoldsRight p s p.right (drop (side_count p p.left) line) rows.right

-- a stage shard of its plan, with the rows of its line; the requests that wait are of views
pub record IsWhole (x : Shard) : Type 0 where
  pub shard : x.shard < x.plan.stages
  pub of : AreOf x.plan x.line
  pub fronts : IsLine x.plan (entries_of x.line)
  pub senders : x.marks.senders ≡ length (sources x.plan)
  pub rows : HoldsRows x.plan x.shard (entries_of x.line) x.rows
  pub pending : Each (λ (a : Ask). view_of a.tag < length x.plan.views) x.pending

-- ---- the requests that wait
-- none of the stage keys behind the request is a hole
abbrev pub HasBegun : Stage → Ask → Type 0
HasBegun s a = list_all (λ x. not (is_open x s.right)) (behind s (view_of a.tag) a.key) ≡ true

-- of these keys some right rows are lacking, and none of them is a hole
abbrev pub Waits : Stage → Ask → Type 0
Waits s a = (list_all (knows s.right) (behind s (view_of a.tag) a.key) ≡ false) × HasBegun s a

-- each request that waits has to wait on
abbrev pub AllWait : Stage → Type 0
AllWait s = Each (Waits s) s.pending

-- a whole stage shard between two messages: each request that waits was looked at, and has to wait on
pub record IsShard (x : Shard) : Type 0 where
  pub whole : IsWhole x
  pub waits : AllWait (stage_of x)

-- ---- messages
-- the packet is from this source to this stage shard
pub record IsFrom (p : Layout) (s j : ℕ) (k : BasePacketView) : Type 0 where
  pub plan : k.plan ≡ p
  pub stage : k.stage ≡ s
  pub source : j < length (sources p)
  pub base : k.base ≡ source_at p j

-- ---- what is put out
-- the packet is from stage shard s to this reader
pub record IsTo (p : Layout) (s : ℕ) (r : Reader) (x : StagePacketView) : Type 0 where
  pub plan : x.plan ≡ p
  pub stage : x.stage ≡ s
  pub view : x.view ≡ r.view
  pub shard : x.shard ≡ r.shard

-- each packet is to the reader of its edge
abbrev pub AreTo : Layout → ℕ → List (EdgeView StagePacketView) → Type 0
AreTo p s out = Pointwise (λ r xs. Each (IsTo p s r) xs) (readers p) (packets_on out)

-- so far all went as the protocol says
pub record IsPut (d : Done) (out : OutboxView) (x : Shard) : Type 0 where
  pub stage : stage_of x ≡ d.stage
  pub sent : map (map sent_of) (packets_on out.packets) ≡ d.sent
  pub asks : packets_on out.requests ≡ d.requests
  pub to : AreTo x.plan x.shard out.packets

-- it is the same shard of the same plan
pub record IsSame (old new : Shard) : Type 0 where
  pub plan : new.plan ≡ old.plan
  pub shard : new.shard ≡ old.shard

-- ---- parts of a step
-- the message is for it: a packet is from its source and starts at the front that is held, and a request is of a view of the plan
abbrev pub Meets : Shard → ToStage → Type 0
Meets x (packet j k) = IsFrom x.plan x.shard j k × (slice_get (entries_of x.line) j ≡ Some k.from)
Meets x (request a) = view_of a.tag < length x.plan.views
Meets x (order k) = Unit {0}

-- a packet that brings no entry, but a piece or a marker
abbrev pub has_no_entry : BasePacketView → Bool
has_no_entry k = is_some k.piece || is_some k.marker

-- a stage shard that has only this, as far as what it knows goes
abbrev pub seen : Layout → ℕ → Line → Option Keys → Stage
seen p s line right = record { plan = p; shard = s; line = line; right = right; pending = []; asked = None; marks = [] }

-- the keys of views of which records of source j change what cannot be told
abbrev pub entry_names : Layout → ℕ → Line → Option Keys → ℕ → List Record → List (List Datum)
entry_names p s line right j records = names_of p (unknown (seen p s line right) j records)

-- an answer to a request
abbrev pub given : Stage → Ask → Done
given s a = put s (λ asked r. cond (is_of s.plan (view_of a.tag) a.key r) (with_piece s.line a.key ∷ []) [])

-- the names for each view of the left rows of stage key k
abbrev pub gone_names : Shard → Datum → List (List Datum)
gone_names x k = names_of x.plan (of_stage_key (stage_of x) k)

-- what each view shard is told as stage key k goes
abbrev pub gone_to : Shard → Datum → Reader → List StagePacketView
gone_to x k r = perhaps (told_if false x.plan x.shard (entries_of x.line) (entries_of x.line) [] (gone_names x k) None r)
